use Rattle.std.proofs.Common.{arith}
use Rattle.opl_value.proofs.PlaceLaws.{places_below}
use Rattle.opl_value.proofs.laws.places_are_below.Goals as goal

-- src/laws.rt:23:1
pub returns : goal.returns
returns c = grind (arith, places_below)
