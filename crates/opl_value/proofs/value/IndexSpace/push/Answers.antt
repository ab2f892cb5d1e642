use Rattle.std.proofs.Common.{arith}
use Rattle.opl_value.proofs.Places.{spaces}
use Rattle.opl_value.proofs.value.IndexSpace.push.Goals as goal

-- src/space.rt:22:5
pub returns-clause-ok : goal.returns-clause-ok
returns-clause-ok c = grind (arith, spaces)

-- src/space.rt:22:5
pub returns-clause-err : goal.returns-clause-err
returns-clause-err c = grind (arith, spaces)

-- src/space.rt:22:5
pub returns-clause-sorted : goal.returns-clause-sorted
returns-clause-sorted c = grind (arith, spaces)
