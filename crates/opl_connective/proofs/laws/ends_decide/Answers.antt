use Rattle.opl_connective.proofs.Ends as ends
use Rattle.opl_connective.proofs.laws.ends_decide.Goals as goal

pub returns : goal.returns
returns c = ends.ends_decide
