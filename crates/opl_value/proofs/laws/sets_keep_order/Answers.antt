use Rattle.std.proofs.Common.{arith}
use Rattle.opl_value.proofs.SetLaws.{sets_keep_order}
use Rattle.opl_value.proofs.laws.sets_keep_order.Goals as goal

-- src/laws.rt:47:1
pub returns : goal.returns
returns c = grind (arith, sets_keep_order)
