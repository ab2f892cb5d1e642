use Rattle.std.proofs.Common.{arith}
use Rattle.opl_tree.proofs.Marks.{order_marks}
use Rattle.opl_walk.proofs.Telling.{telling}
use Rattle.opl_walk.proofs.search.walk_order.Goals as goal

pub returns : goal.returns
returns g c = grind (arith, order_marks, telling)
