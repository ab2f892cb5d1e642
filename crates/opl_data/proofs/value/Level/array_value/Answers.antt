use Rattle.std.proofs.Common.{arith}
use Rattle.opl_data.specs.Grammar.{array_value}
use Rattle.std.proofs.lemmas.Grind.{common_steps}
use Rattle.opl_data.proofs.value.Level.array_value.Goals as goal

-- src/value.rt:315:9
pub returns-in_err-expect_sign : goal.returns-in_err-expect_sign
unfolding array_value
returns-in_err-expect_sign g c = grind (arith, common_steps)

-- src/value.rt:316:21
pub returns-in_err-parts : goal.returns-in_err-parts
unfolding array_value
returns-in_err-parts g c = grind (arith, common_steps)

-- src/value.rt:317:9
pub returns-in_err-expect_sign-2 : goal.returns-in_err-expect_sign-2
unfolding array_value
returns-in_err-expect_sign-2 g c = grind (arith, common_steps)

-- src/value.rt:309:5
pub returns : goal.returns
unfolding array_value
returns g c = grind (arith, common_steps)
