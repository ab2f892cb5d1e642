use Rattle.opl_steps.proofs.Bounds.{better_sound}
use Rattle.opl_steps.proofs.bounds_are_sound.Goals as goal

pub returns : goal.returns
returns c = better_sound
