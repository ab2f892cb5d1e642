use Rattle.std.proofs.Common.{arith}
use Rattle.opl_data.proofs.Trees.{file_marks}
use Rattle.opl_walk.proofs.Telling.{lists}
use Rattle.opl_walk.proofs.data.walk_data.Goals as goal

pub loop-item-init : goal.loop-item-init
loop-item-init g c = grind (arith, file_marks, lists)

pub loop-item-preserved : goal.loop-item-preserved
loop-item-preserved g c = grind (arith, file_marks, lists)

pub returns : goal.returns
returns g c = grind (arith, file_marks, lists)
