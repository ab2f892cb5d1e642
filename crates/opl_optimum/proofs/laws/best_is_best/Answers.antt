use Rattle.opl_optimum.proofs.BestLaws.{best_is_best}
use Rattle.opl_optimum.proofs.laws.best_is_best.Goals as goal

pub returns : goal.returns
returns c = best_is_best
