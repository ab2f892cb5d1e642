use Rattle.opl_unfolding.proofs.Instances.{posted-stop}
use Rattle.opl_unfolding.proofs.laws.posted_stop.Goals as goal

pub returns : goal.returns
returns c = posted-stop
