use Rattle.std.proofs.Common.{arith}
use Rattle.opl_data.specs.Grammar.{level}
use Rattle.std.proofs.lemmas.Grind.{common_steps}
use Rattle.opl_data.proofs.value.NextBelow.values.Goals as goal

-- src/value.rt:240:5
pub returns : goal.returns
unfolding level
returns g c = grind (arith, common_steps)
