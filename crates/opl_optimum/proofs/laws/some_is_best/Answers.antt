use Rattle.opl_optimum.proofs.BestLaws.{some_is_best}
use Rattle.opl_optimum.proofs.laws.some_is_best.Goals as goal

pub returns : goal.returns
returns c = some_is_best
