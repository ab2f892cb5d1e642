use Rattle.opl_solve.proofs.PrintingLemmas.{put-prints}
use Rattle.opl_solve.proofs.print.print.Goals as goal

pub returns : goal.returns
returns g c = put-prints _ _ _ _ _ _ c.put.ensures.written c.put.ensures.cause
