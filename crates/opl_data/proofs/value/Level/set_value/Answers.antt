use Rattle.std.proofs.Common.{arith}
use Rattle.opl_data.specs.Grammar.{set_value}
use Rattle.std.proofs.lemmas.Grind.{common_steps}
use Rattle.opl_data.proofs.value.Level.set_value.Goals as goal

-- src/value.rt:302:9
pub returns-in_err-expect_sign : goal.returns-in_err-expect_sign
unfolding set_value
returns-in_err-expect_sign g c = grind (arith, common_steps)

-- src/value.rt:303:21
pub returns-in_err-parts : goal.returns-in_err-parts
unfolding set_value
returns-in_err-parts g c = grind (arith, common_steps)

-- src/value.rt:304:9
pub returns-in_err-expect_sign-2 : goal.returns-in_err-expect_sign-2
unfolding set_value
returns-in_err-expect_sign-2 g c = grind (arith, common_steps)

-- src/value.rt:296:5
pub returns : goal.returns
unfolding set_value
returns g c = grind (arith, common_steps)
