use Rattle.opl_linear_filter.proofs.Ends as ends
use Rattle.opl_linear_filter.proofs.laws.ends_decide.Goals as goal

pub returns : goal.returns
returns c = ends.ends_decide
