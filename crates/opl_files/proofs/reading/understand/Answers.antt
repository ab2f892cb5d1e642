use Rattle.opl_files.proofs.ReadingLemmas.{understood-beside, understood-stops}
use Rattle.opl_files.proofs.reading.understand.Goals as goal

pub returns-in-Err : goal.returns-in-Err
returns-in-Err c =
    understood-stops c.args.tokens.now c.args.others.now c.in_ok-tree.tree _ c.in_ok-tree.ensures c.in-Err.ensures

pub returns-in-Ok : goal.returns-in-Ok
returns-in-Ok c =
    rw c.front.ensures (understood-beside c.args.tokens.now c.args.others.now c.in_ok-tree.tree c.in-Ok.files _ c.in_ok-tree.ensures c.in-Ok.ensures c.typed.ensures)
