use Rattle.opl_trace.proofs.Enough.{prefixes_enough}
use Rattle.opl_trace.proofs.laws.prefixes_are_enough.Goals as goal

pub returns : goal.returns
returns c = prefixes_enough
