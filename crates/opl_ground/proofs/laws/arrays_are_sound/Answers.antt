use Rattle.opl_ground.proofs.Arrays.{arrays_are_sound}
use Rattle.opl_ground.proofs.laws.arrays_are_sound.Goals as goal

pub returns : goal.returns
returns c = arrays_are_sound
