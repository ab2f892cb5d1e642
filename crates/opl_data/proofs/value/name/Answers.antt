use Rattle.std.proofs.Common.{arith}
use Rattle.opl_data.specs.Grammar.{name}
use Rattle.std.proofs.lemmas.Grind.{common_steps}
use Rattle.opl_data.proofs.value.name.Goals as goal

-- src/value.rt:41:16
pub returns-in_err-text : goal.returns-in_err-text
unfolding name
returns-in_err-text c = grind (arith, common_steps)

-- src/value.rt:36:1
pub returns : goal.returns
unfolding name
returns c = grind (arith, common_steps)
