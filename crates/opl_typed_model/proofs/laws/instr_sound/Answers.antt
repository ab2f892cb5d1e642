use Rattle.opl_typed_model.proofs.Lawful.{instr_sound}
use Rattle.opl_typed_model.proofs.laws.instr_sound.Goals as goal

pub returns : goal.returns
returns c = instr_sound
