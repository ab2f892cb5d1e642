use Rattle.opl_trace.proofs.Closures.{none_lost}
use Rattle.opl_trace.proofs.laws.closures_lose_none.Goals as goal

pub returns : goal.returns
returns c = none_lost
