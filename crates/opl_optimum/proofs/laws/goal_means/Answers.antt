use Rattle.opl_optimum.proofs.GoalLaws.{goal_means}
use Rattle.opl_optimum.proofs.laws.goal_means.Goals as goal

pub returns : goal.returns
returns c = goal_means c.unrolled_means.ensures
