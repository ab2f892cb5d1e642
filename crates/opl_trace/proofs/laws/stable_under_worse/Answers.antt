use Rattle.opl_trace.proofs.Better.{stable_tighter}
use Rattle.opl_trace.proofs.laws.stable_under_worse.Goals as goal

pub returns : goal.returns
returns c = stable_tighter
