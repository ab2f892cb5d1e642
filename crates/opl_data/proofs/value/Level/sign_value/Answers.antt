use Rattle.std.proofs.Common.{arith}
use Rattle.opl_data.specs.Grammar.{sign_value}
use Rattle.std.proofs.lemmas.Grind.{common_steps}
use Rattle.opl_data.proofs.value.Level.sign_value.Goals as goal

-- src/value.rt:335:5
pub returns-then-sees_sign : goal.returns-then-sees_sign
unfolding sign_value
returns-then-sees_sign g c = grind (arith, common_steps)

-- src/value.rt:335:5
pub returns-then-sees_sign-2 : goal.returns-then-sees_sign-2
unfolding sign_value
returns-then-sees_sign-2 g c = grind (arith, common_steps)

-- src/value.rt:335:5
pub returns-then-sees_sign-3 : goal.returns-then-sees_sign-3
unfolding sign_value
returns-then-sees_sign-3 g c = grind (arith, common_steps)

-- src/value.rt:335:5
pub returns-then-sees_sign-4 : goal.returns-then-sees_sign-4
unfolding sign_value
returns-then-sees_sign-4 g c = grind (arith, common_steps)

-- src/value.rt:335:5
pub returns-else-sees_sign-4 : goal.returns-else-sees_sign-4
unfolding sign_value
returns-else-sees_sign-4 g c = grind (arith, common_steps)
