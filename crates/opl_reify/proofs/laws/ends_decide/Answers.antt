use Rattle.opl_reify.proofs.Ends as ends
use Rattle.opl_reify.proofs.laws.ends_decide.Goals as goal

pub returns : goal.returns
returns c = ends.ends_decide
