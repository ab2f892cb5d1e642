use Rattle.std.proofs.Common.{arith}
use Rattle.opl_data.specs.Grammar.{pairs}
use Rattle.std.proofs.lemmas.Grind.{common_steps}
use Rattle.opl_data.proofs.value.pairs.Goals as goal

-- src/value.rt:208:17
pub returns-in_err-first : goal.returns-in_err-first
unfolding pairs
returns-in_err-first g c = grind (arith, common_steps)

-- src/value.rt:209:25
pub returns-in_err-first-2 : goal.returns-in_err-first-2
unfolding pairs
returns-in_err-first-2 g c = grind (arith, common_steps)

-- src/value.rt:210:8
pub returns-in_err-with_first : goal.returns-in_err-with_first
unfolding pairs
returns-in_err-with_first g c = grind (arith, common_steps)

-- src/value.rt:198:1
pub returns : goal.returns
unfolding pairs
returns g c = grind (arith, common_steps)
