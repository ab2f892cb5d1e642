use Rattle.std.proofs.Common.{arith}
use Rattle.opl_data.specs.Grammar.{keyed_value}
use Rattle.std.proofs.lemmas.Grind.{common_steps}
use Rattle.opl_data.proofs.value.Level.keyed_value.Goals as goal

-- src/value.rt:328:9
pub returns-in_err-expect_sign : goal.returns-in_err-expect_sign
unfolding keyed_value
returns-in_err-expect_sign g c = grind (arith, common_steps)

-- src/value.rt:329:21
pub returns-in_err-parts : goal.returns-in_err-parts
unfolding keyed_value
returns-in_err-parts g c = grind (arith, common_steps)

-- src/value.rt:330:9
pub returns-in_err-expect_sign-2 : goal.returns-in_err-expect_sign-2
unfolding keyed_value
returns-in_err-expect_sign-2 g c = grind (arith, common_steps)

-- src/value.rt:322:5
pub returns : goal.returns
unfolding keyed_value
returns g c = grind (arith, common_steps)
