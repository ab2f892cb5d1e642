use Rattle.opl_optimum.proofs.BestLaws.{last_is_best}
use Rattle.opl_optimum.proofs.laws.last_is_best.Goals as goal

pub returns : goal.returns
returns c = last_is_best
