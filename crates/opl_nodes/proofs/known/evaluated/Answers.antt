use Rattle.std.proofs.Common.{ap, sym, subst}
use Rattle.opl_eval.specs.Evaluation.{integer}
use Rattle.opl_form.specs.Parts.{Form}
use Rattle.opl_form.specs.Nodes as making
use Rattle.opl_nodes.specs.Pieces.{Refuses, told}
use Rattle.opl_nodes.proofs.Tests.{refuses-told}
use Rattle.opl_nodes.proofs.known.evaluated.Goals as goal

pub returns-in-Err : goal.returns-in-Err
returns-in-Err c =
    let k = c.args.context.now in
    let m = making.evaluated k.item c.args.before (integer c.args.number) in
    subst (λ e. Refuses m e) (sym c.from.ensures)
    (subst (λ m. Refuses m (told c.in-Err.fault)) (sym (ap (λ q. making.evaluated k.item c.args.before (integer q)) c.in-Err.is)) (refuses-told Form c.in-Err.fault))
