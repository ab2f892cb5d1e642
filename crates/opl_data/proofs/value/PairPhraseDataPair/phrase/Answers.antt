use Rattle.std.proofs.Common.{arith}
use Rattle.opl_data.specs.Grammar.{pair}
use Rattle.std.proofs.lemmas.Grind.{common_steps}
use Rattle.opl_data.proofs.value.PairPhraseDataPair.phrase.Goals as goal

-- src/value.rt:190:19
pub returns-in_err-key : goal.returns-in_err-key
unfolding pair
returns-in_err-key g c = grind (arith, common_steps)

-- src/value.rt:191:25
pub returns-in_err-key-2 : goal.returns-in_err-key-2
unfolding pair
returns-in_err-key-2 g c = grind (arith, common_steps)

-- src/value.rt:192:28
pub returns-in_err-key-3 : goal.returns-in_err-key-3
unfolding pair
returns-in_err-key-3 g c = grind (arith, common_steps)

-- src/value.rt:187:5
pub returns : goal.returns
unfolding pair
returns g c = grind (arith, common_steps)
