use Rattle.opl_draft.proofs.Settled.{settled_values}
use Rattle.opl_draft.proofs.laws.settled_values.Goals as goal

pub returns : goal.returns
returns c = settled_values
