use Rattle.opl_trace.proofs.Constraints.{dead_monotone}
use Rattle.opl_trace.proofs.laws.refuting_is_monotone.Goals as goal

pub returns : goal.returns
returns c = dead_monotone
