use Rattle.opl_ground.proofs.Limits.{variables_are_within_limits}
use Rattle.opl_ground.proofs.laws.variables_are_within_limits.Goals as goal

pub returns : goal.returns
returns c = variables_are_within_limits
