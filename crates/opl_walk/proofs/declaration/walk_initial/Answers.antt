use Rattle.std.proofs.Common.{arith}
use Rattle.opl_tree.proofs.Marks.{initial_marks}
use Rattle.opl_walk.proofs.Telling.{telling}
use Rattle.opl_walk.proofs.declaration.walk_initial.Goals as goal

pub returns-in-External : goal.returns-in-External
returns-in-External g c = grind (arith, initial_marks, telling)

pub returns-in-Written : goal.returns-in-Written
returns-in-Written g c = grind (arith, initial_marks, telling)
