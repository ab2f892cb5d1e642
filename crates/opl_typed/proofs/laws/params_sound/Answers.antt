use Rattle.opl_typed.proofs.Lawful.{params_sound}
use Rattle.opl_typed.proofs.laws.params_sound.Goals as goal

pub returns : goal.returns
returns c = params_sound
