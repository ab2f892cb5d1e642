use Rattle.opl_data.proofs.TreeLaws.{deep_or_tree}
use Rattle.opl_data.proofs.laws.deep_or_tree.Goals as goal

pub returns : goal.returns
returns c = deep_or_tree
