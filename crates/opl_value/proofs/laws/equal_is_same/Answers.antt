use Rattle.std.proofs.Common.{arith}
use Rattle.opl_value.specs.Total.{value_same}
use Rattle.opl_value.proofs.laws.equal_is_same.Goals as goal

-- src/laws.rt:5:1
pub returns : goal.returns
returns c = grind (arith, value_same)
