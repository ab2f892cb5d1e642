use Rattle.std.proofs.Common.{arith}
use Rattle.opl_data.specs.Grammar.{values}
use Rattle.std.proofs.lemmas.Grind.{common_steps}
use Rattle.opl_data.proofs.value.values.Goals as goal

-- src/value.rt:155:17
pub returns-in_err-first : goal.returns-in_err-first
unfolding values
returns-in_err-first g c = grind (arith, common_steps)

-- src/value.rt:146:1
pub returns : goal.returns
unfolding values
returns g c = grind (arith, common_steps)
