use Rattle.opl_unfolding.proofs.Visits.{bodies-by-choice}
use Rattle.opl_unfolding.proofs.laws.bodies_by_choice.Goals as goal

pub returns : goal.returns
returns c = bodies-by-choice
