use Rattle.std.proofs.Common.{arith}
use Rattle.opl_tree.proofs.Marks.{type_marks}
use Rattle.opl_walk.proofs.Telling.{telling}
use Rattle.opl_walk.proofs.declaration.+types.Goals as goal

pub returns-in-Int : goal.returns-in-Int
returns-in-Int g t c = grind (arith, type_marks, telling)

pub returns-in-Named : goal.returns-in-Named
returns-in-Named g t c = grind (arith, type_marks, telling)

pub returns-in-Set : goal.returns-in-Set
returns-in-Set g t c = grind (arith, type_marks, telling)
