use Rattle.std.proofs.Common.{arith}
use Rattle.opl_value.proofs.Sets.{sets_differ}
use Rattle.opl_value.proofs.laws.sets_differ.Goals as goal

-- src/laws.rt:17:1
pub returns : goal.returns
returns c = grind (arith, sets_differ)
