use Rattle.std.proofs.Common.{arith}
use Rattle.opl_tree.proofs.Marks.{model_marks}
use Rattle.opl_walk.proofs.Telling.{lists, telling}
use Rattle.opl_walk.proofs.model.walk_model.Goals as goal

pub loop-decl-init : goal.loop-decl-init
loop-decl-init g c = grind (arith, model_marks, telling, lists)

pub loop-decl-preserved : goal.loop-decl-preserved
loop-decl-preserved g c = grind (arith, model_marks, telling, lists)

pub returns-in-Some : goal.returns-in-Some
returns-in-Some g c = grind (arith, model_marks, telling, lists)

pub returns-in_default : goal.returns-in_default
returns-in_default g c = grind (arith, model_marks, telling, lists)
