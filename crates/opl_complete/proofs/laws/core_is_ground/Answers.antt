use Rattle.opl_complete.proofs.Ground.{core_is_ground}
use Rattle.opl_complete.proofs.laws.core_is_ground.Goals as goal

pub returns : goal.returns
returns c = core_is_ground
