use Rattle.std.proofs.Common.{arith}
use Rattle.opl_value.proofs.Rising.{named}
use Rattle.opl_value.proofs.laws.listed_has_its_values.Goals as goal

-- src/laws.rt:70:1
pub returns-clause-values : goal.returns-clause-values
returns-clause-values c = grind (arith, named)

-- src/laws.rt:70:1
pub returns-clause-sorted : goal.returns-clause-sorted
returns-clause-sorted c = grind (arith, named)
