use Rattle.opl_trace.proofs.CoreSolutions.{base_sound}
use Rattle.opl_trace.proofs.laws.bases_are_sound.Goals as goal

pub returns : goal.returns
returns c = base_sound
