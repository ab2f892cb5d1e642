use Rattle.opl_complete.proofs.Means.{values_mean}
use Rattle.opl_complete.proofs.laws.values_mean.Goals as goal

pub returns : goal.returns
returns c = values_mean c.goal_means.ensures
