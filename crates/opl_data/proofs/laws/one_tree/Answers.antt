use Rattle.opl_data.proofs.TreeLaws.{one_tree}
use Rattle.opl_data.proofs.laws.one_tree.Goals as goal

pub returns : goal.returns
returns c = one_tree
