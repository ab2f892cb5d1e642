use Rattle.opl_typed.proofs.Lawful.{sound}
use Rattle.opl_typed.proofs.laws.sound.Goals as goal

pub returns : goal.returns
returns c = sound
