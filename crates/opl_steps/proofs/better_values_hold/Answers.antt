use Rattle.opl_steps.proofs.Bounds.{better_holds}
use Rattle.opl_steps.proofs.better_values_hold.Goals as goal

pub returns : goal.returns
returns c = better_holds
