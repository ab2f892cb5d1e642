use Rattle.std.proofs.Common.{arith}
use Rattle.std.proofs.lemmas.Grind.{common_steps}
use Rattle.opl_grammar.specs.Rules.{order}
use Rattle.opl_level.proofs.below.Level.order.Goals as goal

-- src/params.rt:145:9
pub returns-in_err-expect_word : goal.returns-in_err-expect_word
unfolding order
returns-in_err-expect_word g c = grind (arith, common_steps)

-- src/params.rt:146:9
pub returns-in_err-expect_word-2 : goal.returns-in_err-expect_word-2
unfolding order
returns-in_err-expect_word-2 g c = grind (arith, common_steps)

-- src/params.rt:147:29
pub returns-in_err-is_increasing : goal.returns-in_err-is_increasing
unfolding order
returns-in_err-is_increasing g c = grind (arith, common_steps)

-- src/params.rt:148:19
pub returns-in_err-add : goal.returns-in_err-add
unfolding order
returns-in_err-add g c = grind (arith, common_steps)

-- src/params.rt:139:5
pub returns : goal.returns
unfolding order
returns g c = grind (arith, common_steps)
