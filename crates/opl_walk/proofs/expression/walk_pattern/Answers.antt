use Rattle.std.proofs.Common.{arith}
use Rattle.opl_tree.proofs.Marks.{pattern_marks}
use Rattle.opl_walk.proofs.Telling.{telling}
use Rattle.opl_walk.proofs.expression.walk_pattern.Goals as goal

pub returns-in-Single : goal.returns-in-Single
returns-in-Single g c = grind (arith, pattern_marks, telling)

pub returns-in-Record : goal.returns-in-Record
returns-in-Record g c = grind (arith, pattern_marks, telling)
