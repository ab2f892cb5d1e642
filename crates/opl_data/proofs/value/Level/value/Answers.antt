use Rattle.std.proofs.Common.{arith}
use Rattle.opl_data.specs.Grammar.{value}
use Rattle.std.proofs.lemmas.Grind.{common_steps}
use Rattle.opl_data.proofs.value.Level.value.Goals as goal

-- src/value.rt:360:33
pub returns-in_err-name : goal.returns-in_err-name
unfolding value
returns-in_err-name g c = grind (arith, common_steps)

-- src/value.rt:354:5
pub returns-in_ok-name : goal.returns-in_ok-name
unfolding value
returns-in_ok-name g c = grind (arith, common_steps)

-- src/value.rt:354:5
pub returns-then-sees_number : goal.returns-then-sees_number
unfolding value
returns-then-sees_number g c = grind (arith, common_steps)

-- src/value.rt:354:5
pub returns-else-sees_number : goal.returns-else-sees_number
unfolding value
returns-else-sees_number g c = grind (arith, common_steps)
