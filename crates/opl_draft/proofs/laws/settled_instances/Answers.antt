use Rattle.opl_draft.proofs.Settled.{settled_instances}
use Rattle.opl_draft.proofs.laws.settled_instances.Goals as goal

pub returns : goal.returns
returns c = settled_instances
