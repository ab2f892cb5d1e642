use Rattle.opl_draft.proofs.Settled.{settled_faults}
use Rattle.opl_draft.proofs.laws.settled_faults.Goals as goal

pub returns : goal.returns
returns c = settled_faults
