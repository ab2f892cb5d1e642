use Rattle.std.proofs.Common.{arith}
use Rattle.std.proofs.lemmas.Grind.{common_steps}
use Rattle.opl_bind.specs.Dimensions.{axis_in}
use Rattle.opl_bind.proofs.dimension.axis_in.Goals as goal

pub returns-clause-axis : goal.returns-clause-axis
unfolding axis_in
returns-clause-axis c = grind (arith, common_steps)

pub returns-clause-faults : goal.returns-clause-faults
unfolding axis_in
returns-clause-faults c = grind (arith, common_steps)
