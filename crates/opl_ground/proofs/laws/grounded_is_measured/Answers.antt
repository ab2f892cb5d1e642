use Rattle.opl_ground.proofs.Measured.{grounded_is_measured}
use Rattle.opl_ground.proofs.laws.grounded_is_measured.Goals as goal

pub returns : goal.returns
returns c = grounded_is_measured
