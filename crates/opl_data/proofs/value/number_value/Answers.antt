use Rattle.std.proofs.Common.{arith}
use Rattle.opl_data.specs.Grammar.{number_value}
use Rattle.std.proofs.lemmas.Grind.{common_steps}
use Rattle.opl_data.proofs.value.number_value.Goals as goal

-- src/value.rt:51:17
pub returns-in_err-value : goal.returns-in_err-value
unfolding number_value
returns-in_err-value c = grind (arith, common_steps)

-- src/value.rt:46:1
pub returns : goal.returns
unfolding number_value
returns c = grind (arith, common_steps)
