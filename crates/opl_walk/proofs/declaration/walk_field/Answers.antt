use Rattle.std.proofs.Common.{arith}
use Rattle.opl_tree.proofs.Marks.{field_marks}
use Rattle.opl_walk.proofs.Telling.{telling}
use Rattle.opl_walk.proofs.declaration.walk_field.Goals as goal

pub returns : goal.returns
returns g c = grind (arith, field_marks, telling)
