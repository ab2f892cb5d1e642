use Rattle.std.proofs.Common.{arith}
use Rattle.opl_given.proofs.Slots.{slots}
use Rattle.opl_given.proofs.cells.is_free.Goals as goal

-- src/cells.rt:84:1
pub returns-in-Some-clause-within : goal.returns-in-Some-clause-within
returns-in-Some-clause-within c = grind (arith, slots)

-- src/cells.rt:84:1
pub returns-in-None-clause-within : goal.returns-in-None-clause-within
returns-in-None-clause-within c = grind (arith, slots)
