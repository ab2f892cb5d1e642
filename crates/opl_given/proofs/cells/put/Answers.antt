use Rattle.std.proofs.Common.{arith}
use Rattle.opl_given.proofs.Slots.{slots}
use Rattle.opl_given.proofs.cells.put.Goals as goal

-- src/cells.rt:106:9
pub returns-in_default : goal.returns-in_default
returns-in_default c = grind (arith, slots)

-- src/cells.rt:109:9
pub returns-then-not-is_free : goal.returns-then-not-is_free
returns-then-not-is_free c = grind (arith, slots)

-- src/cells.rt:96:1
pub returns : goal.returns
returns c = grind (arith, slots)
