use Rattle.std.proofs.Common.{arith}
use Rattle.opl_tree.proofs.Marks.{struct_marks}
use Rattle.opl_walk.proofs.Telling.{lists, telling}
use Rattle.opl_walk.proofs.declaration.walk_struct.Goals as goal

pub loop-field-init : goal.loop-field-init
loop-field-init g c = grind (arith, struct_marks, telling, lists)

pub loop-field-preserved : goal.loop-field-preserved
loop-field-preserved g c = grind (arith, struct_marks, telling, lists)

pub returns : goal.returns
returns g c = grind (arith, struct_marks, telling, lists)
