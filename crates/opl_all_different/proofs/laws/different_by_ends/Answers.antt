use Rattle.opl_all_different.proofs.Ends as ends
use Rattle.opl_all_different.proofs.laws.different_by_ends.Goals as goal

pub returns : goal.returns
returns c = ends.different_by_ends
