use Rattle.opl_draft.proofs.Instances.{instance_means}
use Rattle.opl_draft.proofs.laws.instance_means.Goals as goal

pub returns : goal.returns
returns c = instance_means
