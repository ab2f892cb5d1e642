use Rattle.std.proofs.Common.{arith}
use Rattle.std.proofs.lemmas.Grind.{common_steps}
use Rattle.opl_grammar.specs.Rules.{upper}
use Rattle.opl_level.proofs.below.Level.upper.Goals as goal

-- src/product.rt:174:9
pub returns-in_err-expect_sign : goal.returns-in_err-expect_sign
unfolding upper
returns-in_err-expect_sign g c = grind (arith, common_steps)

-- src/product.rt:169:5
pub returns : goal.returns
unfolding upper
returns g c = grind (arith, common_steps)
