use Rattle.std.proofs.Common.{arith}
use Rattle.opl_value.proofs.SetLaws.{different_values_stay}
use Rattle.opl_value.proofs.laws.different_values_stay.Goals as goal

-- src/laws.rt:53:1
pub returns : goal.returns
returns c = grind (arith, different_values_stay)
