use Rattle.std.proofs.Common.{arith}
use Rattle.opl_given.proofs.Slots.{slots}
use Rattle.opl_given.proofs.cells.joined.Goals as goal

-- src/cells.rt:211:1
pub returns : goal.returns
returns c = grind (arith, slots)
