use Rattle.std.proofs.Common.{arith}
use Rattle.opl_given.proofs.Spaces.{spaces}
use Rattle.opl_bind.specs.Dimensions.{space_in}
use Rattle.opl_bind.proofs.dimension.index_space.Goals as goal

pub returns-clause-faults : goal.returns-clause-faults
unfolding space_in
returns-clause-faults c = grind (arith, spaces)

pub returns-clause-space : goal.returns-clause-space
unfolding space_in
returns-clause-space c = grind (arith, spaces)
