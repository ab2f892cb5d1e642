use Rattle.std.proofs.Common.{arith}
use Rattle.opl_value.specs.Total.{value_total}
use Rattle.opl_value.proofs.laws.order_is_total.Goals as goal

-- src/laws.rt:11:1
pub returns : goal.returns
returns c = grind (arith, value_total)
