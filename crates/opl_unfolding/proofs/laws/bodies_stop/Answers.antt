use Rattle.opl_unfolding.proofs.Visits.{bodies-stop}
use Rattle.opl_unfolding.proofs.laws.bodies_stop.Goals as goal

pub returns : goal.returns
returns c = bodies-stop
