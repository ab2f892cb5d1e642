use Rattle.opl_complete.proofs.Means.{core_means}
use Rattle.opl_complete.proofs.laws.core_means.Goals as goal

pub returns : goal.returns
returns c = core_means c.instances_clean.ensures c.solutions_unrolled.ensures c.values_mean.ensures
