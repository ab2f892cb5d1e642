use Rattle.std.proofs.Common.{arith}
use Rattle.opl_given.proofs.Spaces.{spaces}
use Rattle.opl_given.proofs.item.given_array.Goals as goal

-- src/item.rt:117:1
pub returns-clause-value : goal.returns-clause-value
returns-clause-value c = grind (arith, spaces)

-- src/item.rt:117:1
pub returns-clause-keyed : goal.returns-clause-keyed
returns-clause-keyed c = grind (arith, spaces)
