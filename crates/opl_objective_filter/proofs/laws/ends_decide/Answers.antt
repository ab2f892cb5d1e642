use Rattle.opl_objective_filter.proofs.Ends as ends
use Rattle.opl_objective_filter.proofs.laws.ends_decide.Goals as goal

pub returns : goal.returns
returns c = ends.ends_decide
