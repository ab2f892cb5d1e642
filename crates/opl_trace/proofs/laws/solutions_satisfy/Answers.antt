use Rattle.opl_trace.proofs.CoreSolutions.{solutions_satisfy}
use Rattle.opl_trace.proofs.laws.solutions_satisfy.Goals as goal

pub returns : goal.returns
returns c = solutions_satisfy
