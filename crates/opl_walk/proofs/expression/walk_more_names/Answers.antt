use Rattle.std.proofs.Common.{arith}
use Rattle.opl_walk.proofs.Telling.{lists}
use Rattle.opl_walk.proofs.expression.walk_more_names.Goals as goal

pub loop-name-init : goal.loop-name-init
loop-name-init g c = grind (arith, lists)

pub loop-name-preserved : goal.loop-name-preserved
loop-name-preserved g c = grind (arith, lists)

pub returns : goal.returns
returns g c = grind (arith, lists)
