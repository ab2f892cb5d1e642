use Rattle.std.proofs.Common.{arith}
use Rattle.opl_tree.proofs.Marks.{enum_names_marks}
use Rattle.opl_walk.proofs.Telling.{telling}
use Rattle.opl_walk.proofs.declaration.walk_enum_names.Goals as goal

pub returns-in-Listed : goal.returns-in-Listed
returns-in-Listed g c = grind (arith, enum_names_marks, telling)

pub returns-after-is_equated : goal.returns-after-is_equated
returns-after-is_equated g c = grind (arith, enum_names_marks, telling)
