use Rattle.std.proofs.Common.{arith}
use Rattle.std.proofs.lemmas.Grind.{common_steps}
use Rattle.opl_grammar.specs.Rules.{negated}
use Rattle.opl_level.proofs.below.Level.negated.Goals as goal

-- src/product.rt:44:9
pub returns-in_err-expect_sign : goal.returns-in_err-expect_sign
unfolding negated
returns-in_err-expect_sign g c = grind (arith, common_steps)

-- src/product.rt:45:21
pub returns-in_err-inner : goal.returns-in_err-inner
unfolding negated
returns-in_err-inner g c = grind (arith, common_steps)

-- src/product.rt:46:12
pub returns-in_err-negative : goal.returns-in_err-negative
unfolding negated
returns-in_err-negative g c = grind (arith, common_steps)

-- src/product.rt:38:5
pub returns : goal.returns
unfolding negated
returns g c = grind (arith, common_steps)
