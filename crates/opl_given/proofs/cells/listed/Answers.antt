use Rattle.std.proofs.Common.{arith}
use Rattle.opl_given.proofs.Slots.{slots}
use Rattle.opl_given.proofs.cells.listed.Goals as goal

-- src/cells.rt:165:9
pub returns-then-not-has_size : goal.returns-then-not-has_size
returns-then-not-has_size c = grind (arith, slots)

-- src/cells.rt:168:5
pub loop-part-init : goal.loop-part-init
loop-part-init c = grind (arith, slots)
