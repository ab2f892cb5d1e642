use Rattle.std.proofs.Common.{arith}
use Rattle.std.proofs.lemmas.Grind.{common_steps}
use Rattle.opl_bind.specs.Dimensions.{number_in}
use Rattle.opl_bind.proofs.dimension.number_in.Goals as goal

pub returns : goal.returns
unfolding number_in
returns c = grind (arith, common_steps)
