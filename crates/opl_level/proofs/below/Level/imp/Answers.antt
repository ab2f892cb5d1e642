use Rattle.std.proofs.Common.{arith}
use Rattle.std.proofs.lemmas.Grind.{common_steps}
use Rattle.opl_grammar.specs.Rules.{imp}
use Rattle.opl_level.proofs.below.Level.imp.Goals as goal

-- src/truth.rt:164:23
pub returns-in_err-premise : goal.returns-in_err-premise
unfolding imp
returns-in_err-premise g c = grind (arith, common_steps)

-- src/truth.rt:165:37
pub returns-in_err-premise-2 : goal.returns-in_err-premise-2
unfolding imp
returns-in_err-premise-2 g c = grind (arith, common_steps)

-- src/truth.rt:171:12
pub returns-in_err-boxed : goal.returns-in_err-boxed
unfolding imp
returns-in_err-boxed g c = grind (arith, common_steps)

-- src/truth.rt:158:5
pub returns : goal.returns
unfolding imp
returns g c = grind (arith, common_steps)
