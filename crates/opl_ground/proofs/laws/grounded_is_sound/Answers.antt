use Rattle.opl_ground.proofs.Ground.{grounded_is_sound}
use Rattle.opl_ground.proofs.laws.grounded_is_sound.Goals as goal

pub returns : goal.returns
returns c = grounded_is_sound
