use Rattle.std.proofs.Common.{arith}
use Rattle.opl_data.proofs.Trees.{item_marks}
use Rattle.opl_walk.proofs.Telling.{telling}
use Rattle.opl_walk.proofs.data.walk_item.Goals as goal

pub returns : goal.returns
returns g c = grind (arith, item_marks, telling)
