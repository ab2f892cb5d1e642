use Rattle.std.proofs.Common.{arith}
use Rattle.opl_data.specs.Grammar.{negative_value}
use Rattle.std.proofs.lemmas.Grind.{common_steps}
use Rattle.opl_data.proofs.value.Level.negative_value.Goals as goal

-- src/value.rt:276:9
pub returns-in_err-expect_sign : goal.returns-in_err-expect_sign
unfolding negative_value
returns-in_err-expect_sign g c = grind (arith, common_steps)

-- src/value.rt:277:21
pub returns-in_err-value : goal.returns-in_err-value
unfolding negative_value
returns-in_err-value g c = grind (arith, common_steps)

-- src/value.rt:270:5
pub returns : goal.returns
unfolding negative_value
returns g c = grind (arith, common_steps)
