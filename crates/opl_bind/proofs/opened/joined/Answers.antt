use Rattle.std.proofs.Common.{arith}
use Rattle.std.proofs.lemmas.Grind.{common_steps}
use Rattle.opl_bind.proofs.CellSlots.{lists}
use Rattle.opl_bind.proofs.opened.joined.Goals as goal

pub loop-cell-init : goal.loop-cell-init
loop-cell-init c = grind (arith, common_steps, lists)

pub loop-cell-preserved : goal.loop-cell-preserved
loop-cell-preserved c = grind (arith, common_steps, lists)

pub returns : goal.returns
returns c = grind (arith, common_steps, lists)
