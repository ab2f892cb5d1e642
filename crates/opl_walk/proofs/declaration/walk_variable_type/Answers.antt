use Rattle.std.proofs.Common.{arith}
use Rattle.opl_tree.proofs.Marks.{variable_type_marks}
use Rattle.opl_walk.proofs.Telling.{telling}
use Rattle.opl_walk.proofs.declaration.walk_variable_type.Goals as goal

pub returns-in-Int : goal.returns-in-Int
returns-in-Int g c = grind (arith, variable_type_marks, telling)

pub returns-in-Named : goal.returns-in-Named
returns-in-Named g c = grind (arith, variable_type_marks, telling)
