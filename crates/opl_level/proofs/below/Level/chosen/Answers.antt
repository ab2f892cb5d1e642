use Rattle.std.proofs.Common.{arith}
use Rattle.std.proofs.lemmas.Grind.{common_steps}
use Rattle.opl_grammar.specs.Rules.{chosen}
use Rattle.opl_level.proofs.below.Level.chosen.Goals as goal

-- src/params.rt:132:9
pub returns-in_err-expect_sign : goal.returns-in_err-expect_sign
unfolding chosen
returns-in_err-expect_sign g c = grind (arith, common_steps)

-- src/params.rt:133:22
pub returns-in_err-params : goal.returns-in_err-params
unfolding chosen
returns-in_err-params g c = grind (arith, common_steps)

-- src/params.rt:134:28
pub returns-in_err-params-2 : goal.returns-in_err-params-2
unfolding chosen
returns-in_err-params-2 g c = grind (arith, common_steps)

-- src/params.rt:126:5
pub returns : goal.returns
unfolding chosen
returns g c = grind (arith, common_steps)
