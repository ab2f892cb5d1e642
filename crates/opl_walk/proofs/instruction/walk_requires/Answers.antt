use Rattle.std.proofs.Common.{arith}
use Rattle.opl_tree.proofs.Marks.{requires_marks}
use Rattle.opl_walk.proofs.Telling.{telling}
use Rattle.opl_walk.proofs.instruction.walk_requires.Goals as goal

pub returns-in-Some-subscripts : goal.returns-in-Some-subscripts
returns-in-Some-subscripts g c = grind (arith, requires_marks, telling)

pub returns-in_default-subscripts : goal.returns-in_default-subscripts
returns-in_default-subscripts g c = grind (arith, requires_marks, telling)
