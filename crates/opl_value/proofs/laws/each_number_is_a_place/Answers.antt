use Rattle.std.proofs.Common.{arith}
use Rattle.opl_value.proofs.PlaceLaws.{each_number}
use Rattle.opl_value.proofs.laws.each_number_is_a_place.Goals as goal

-- src/laws.rt:35:1
pub returns : goal.returns
returns c = grind (arith, each_number)
