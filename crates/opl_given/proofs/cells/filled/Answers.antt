use Rattle.std.proofs.Common.{arith}
use Rattle.opl_given.proofs.Slots.{slots}
use Rattle.opl_given.proofs.cells.filled.Goals as goal

-- src/cells.rt:145:5
pub loop-slot-init : goal.loop-slot-init
loop-slot-init c = grind (arith, slots)
