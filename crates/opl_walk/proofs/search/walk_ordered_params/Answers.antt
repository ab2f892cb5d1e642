use Rattle.std.proofs.Common.{arith}
use Rattle.opl_tree.proofs.Marks.{ordered_params_marks}
use Rattle.opl_walk.proofs.Telling.{telling}
use Rattle.opl_walk.proofs.search.walk_ordered_params.Goals as goal

pub returns-in-Some : goal.returns-in-Some
returns-in-Some g c = grind (arith, ordered_params_marks, telling)

pub returns-in_default : goal.returns-in_default
returns-in_default g c = grind (arith, ordered_params_marks, telling)
