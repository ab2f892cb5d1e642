use Rattle.opl_trace.proofs.SweepLaws.{sweeps_close}
use Rattle.opl_trace.proofs.laws.sweeps_close.Goals as goal

pub returns : goal.returns
returns c = sweeps_close
