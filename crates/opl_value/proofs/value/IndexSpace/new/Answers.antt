use Rattle.std.proofs.Common.{arith}
use Rattle.opl_value.proofs.Places.{spaces}
use Rattle.opl_value.proofs.value.IndexSpace.new.Goals as goal

-- src/space.rt:11:5
pub returns-clause-dims : goal.returns-clause-dims
returns-clause-dims c = grind (arith, spaces)

-- src/space.rt:11:5
pub returns-clause-sorted : goal.returns-clause-sorted
returns-clause-sorted c = grind (arith, spaces)
