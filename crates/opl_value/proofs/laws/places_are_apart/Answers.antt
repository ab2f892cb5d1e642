use Rattle.std.proofs.Common.{arith}
use Rattle.opl_value.proofs.PlaceLaws.{places_apart}
use Rattle.opl_value.proofs.laws.places_are_apart.Goals as goal

-- src/laws.rt:29:1
pub returns : goal.returns
returns c = grind (arith, places_apart)
