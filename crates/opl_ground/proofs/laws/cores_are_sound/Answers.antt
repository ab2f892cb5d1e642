use Rattle.opl_ground.proofs.Cores.{cores_are_sound}
use Rattle.opl_ground.proofs.laws.cores_are_sound.Goals as goal

pub returns : goal.returns
returns c = cores_are_sound
