use Rattle.opl_typed.proofs.Lawful.{sets_sound}
use Rattle.opl_typed.proofs.laws.sets_sound.Goals as goal

pub returns : goal.returns
returns c = sets_sound
