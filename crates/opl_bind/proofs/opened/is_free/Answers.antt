use Rattle.std.proofs.Common.{arith}
use Rattle.opl_bind.proofs.CellSlots.{slots}
use Rattle.opl_bind.proofs.opened.is_free.Goals as goal

pub returns-in_default : goal.returns-in_default
returns-in_default c = grind (arith, slots)
