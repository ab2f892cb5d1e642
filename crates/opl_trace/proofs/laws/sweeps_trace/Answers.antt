use Rattle.opl_trace.proofs.SweepLaws.{sweeps_trace}
use Rattle.opl_trace.proofs.laws.sweeps_trace.Goals as goal

pub returns : goal.returns
returns c = sweeps_trace
