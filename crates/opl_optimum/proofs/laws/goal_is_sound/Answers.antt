use Rattle.opl_optimum.proofs.GoalLaws.{goal_is_sound}
use Rattle.opl_optimum.proofs.laws.goal_is_sound.Goals as goal

pub returns : goal.returns
returns c = goal_is_sound
