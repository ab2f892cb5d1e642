use Rattle.opl_trace.proofs.Constraints.{solutions_stay}
use Rattle.opl_trace.proofs.laws.solutions_stay.Goals as goal

pub returns : goal.returns
returns c = solutions_stay
