use Rattle.opl_optimum.proofs.BestLaws.{improving_agrees}
use Rattle.opl_optimum.proofs.laws.improving_agrees.Goals as goal

pub returns : goal.returns
returns c = improving_agrees
