use Rattle.std.proofs.Common.{arith}
use Rattle.opl_bind.proofs.CellSlots.{slots}
use Rattle.opl_bind.proofs.opened.with_slot.Goals as goal

pub returns : goal.returns
returns c = grind (arith, slots)

pub returns-in-Some : goal.returns-in-Some
returns-in-Some c = grind (arith, slots)
