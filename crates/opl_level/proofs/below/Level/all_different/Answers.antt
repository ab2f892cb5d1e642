use Rattle.std.proofs.Common.{arith}
use Rattle.std.proofs.lemmas.Grind.{common_steps}
use Rattle.opl_grammar.specs.Rules.{all_different}
use Rattle.opl_level.proofs.below.Level.all_different.Goals as goal

-- src/prim.rt:112:9
pub returns-in_err-expect_word : goal.returns-in_err-expect_word
unfolding all_different
returns-in_err-expect_word g c = grind (arith, common_steps)

-- src/prim.rt:114:9
pub returns-in_err-expect_sign : goal.returns-in_err-expect_sign
unfolding all_different
returns-in_err-expect_sign g c = grind (arith, common_steps)

-- src/prim.rt:115:21
pub returns-in_err-inner : goal.returns-in_err-inner
unfolding all_different
returns-in_err-inner g c = grind (arith, common_steps)

-- src/prim.rt:116:27
pub returns-in_err-inner-2 : goal.returns-in_err-inner-2
unfolding all_different
returns-in_err-inner-2 g c = grind (arith, common_steps)

-- src/prim.rt:106:5
pub returns : goal.returns
unfolding all_different
returns g c = grind (arith, common_steps)
