use Rattle.opl_trace.proofs.Constraints.{moment_is_closure}
use Rattle.opl_trace.proofs.laws.moments_are_closures.Goals as goal

pub returns : goal.returns
returns c = moment_is_closure
