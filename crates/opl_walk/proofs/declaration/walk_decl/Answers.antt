use Rattle.std.proofs.Common.{arith}
use Rattle.opl_tree.proofs.Marks.{decl_marks}
use Rattle.opl_walk.proofs.Telling.{telling}
use Rattle.opl_walk.proofs.declaration.walk_decl.Goals as goal

pub returns-in-Data : goal.returns-in-Data
returns-in-Data g c = grind (arith, decl_marks, telling)

pub returns-in-Range : goal.returns-in-Range
returns-in-Range g c = grind (arith, decl_marks, telling)

pub returns-in-Enumeration : goal.returns-in-Enumeration
returns-in-Enumeration g c = grind (arith, decl_marks, telling)

pub returns-in-Structure : goal.returns-in-Structure
returns-in-Structure g c = grind (arith, decl_marks, telling)

pub returns-in-Variable : goal.returns-in-Variable
returns-in-Variable g c = grind (arith, decl_marks, telling)

pub returns-in-Activity : goal.returns-in-Activity
returns-in-Activity g c = grind (arith, decl_marks, telling)

pub returns-in-Unary : goal.returns-in-Unary
returns-in-Unary g c = grind (arith, decl_marks, telling)

pub returns-in-Discrete : goal.returns-in-Discrete
returns-in-Discrete g c = grind (arith, decl_marks, telling)

pub returns-in-Schedule : goal.returns-in-Schedule
returns-in-Schedule g c = grind (arith, decl_marks, telling)
