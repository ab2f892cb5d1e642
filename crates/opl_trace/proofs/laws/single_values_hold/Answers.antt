use Rattle.opl_trace.proofs.Constraints.{singles_hold}
use Rattle.opl_trace.proofs.laws.single_values_hold.Goals as goal

pub returns : goal.returns
returns c = singles_hold
