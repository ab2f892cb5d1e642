use Rattle.opl_data.proofs.TreeLaws.{tree_or_stop}
use Rattle.opl_data.proofs.laws.tree_or_stop.Goals as goal

pub returns : goal.returns
returns c = tree_or_stop
