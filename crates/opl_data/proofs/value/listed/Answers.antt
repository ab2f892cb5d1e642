use Rattle.std.proofs.Common.{arith}
use Rattle.opl_data.specs.Grammar.{listed}
use Rattle.std.proofs.lemmas.Grind.{common_steps}
use Rattle.opl_data.proofs.value.listed.Goals as goal

-- src/value.rt:170:9
pub returns-then-not-starts_value : goal.returns-then-not-starts_value
unfolding listed
returns-then-not-starts_value g c = grind (arith, common_steps)

-- src/value.rt:172:25
pub returns-in_err-first : goal.returns-in_err-first
unfolding listed
returns-in_err-first g c = grind (arith, common_steps)

-- src/value.rt:173:8
pub returns-in_err-with_first : goal.returns-in_err-with_first
unfolding listed
returns-in_err-with_first g c = grind (arith, common_steps)

-- src/value.rt:160:1
pub returns : goal.returns
unfolding listed
returns g c = grind (arith, common_steps)
