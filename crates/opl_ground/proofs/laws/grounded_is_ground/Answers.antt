use Rattle.opl_ground.proofs.Whole.{grounded_is_ground}
use Rattle.opl_ground.proofs.laws.grounded_is_ground.Goals as goal

pub returns : goal.returns
returns c = grounded_is_ground
