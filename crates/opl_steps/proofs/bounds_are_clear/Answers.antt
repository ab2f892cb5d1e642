use Rattle.opl_steps.proofs.Bounds.{better_clear}
use Rattle.opl_steps.proofs.bounds_are_clear.Goals as goal

pub returns : goal.returns
returns c = better_clear
