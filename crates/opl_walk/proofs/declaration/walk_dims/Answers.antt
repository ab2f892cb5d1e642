use Rattle.std.proofs.Common.{arith}
use Rattle.opl_tree.proofs.Marks.{dims_marks}
use Rattle.opl_walk.proofs.Telling.{lists, telling}
use Rattle.opl_walk.proofs.declaration.walk_dims.Goals as goal

pub loop-dim-init : goal.loop-dim-init
loop-dim-init g c = grind (arith, dims_marks, telling, lists)

pub loop-dim-preserved : goal.loop-dim-preserved
loop-dim-preserved g c = grind (arith, dims_marks, telling, lists)

pub returns : goal.returns
returns g c = grind (arith, dims_marks, telling, lists)
