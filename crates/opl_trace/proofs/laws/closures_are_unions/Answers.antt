use Rattle.opl_trace.proofs.Closures.{closure_is}
use Rattle.opl_trace.proofs.laws.closures_are_unions.Goals as goal

pub returns : goal.returns
returns c = closure_is
