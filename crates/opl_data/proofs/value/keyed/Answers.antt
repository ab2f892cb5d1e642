use Rattle.std.proofs.Common.{arith}
use Rattle.opl_data.specs.Grammar.{keyed}
use Rattle.std.proofs.lemmas.Grind.{common_steps}
use Rattle.opl_data.proofs.value.keyed.Goals as goal

-- src/value.rt:214:1
pub returns-then-starts_value : goal.returns-then-starts_value
unfolding keyed
returns-then-starts_value g c = grind (arith, common_steps)

-- src/value.rt:214:1
pub returns-else-starts_value : goal.returns-else-starts_value
unfolding keyed
returns-else-starts_value g c = grind (arith, common_steps)
