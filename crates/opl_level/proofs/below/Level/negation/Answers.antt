use Rattle.std.proofs.Common.{arith}
use Rattle.std.proofs.lemmas.Grind.{common_steps}
use Rattle.opl_grammar.specs.Rules.{negation}
use Rattle.opl_level.proofs.below.Level.negation.Goals as goal

-- src/truth.rt:89:9
pub returns-in_err-expect_word : goal.returns-in_err-expect_word
unfolding negation
returns-in_err-expect_word g c = grind (arith, common_steps)

-- src/truth.rt:90:21
pub returns-in_err-inner : goal.returns-in_err-inner
unfolding negation
returns-in_err-inner g c = grind (arith, common_steps)

-- src/truth.rt:91:29
pub returns-in_err-boxed : goal.returns-in_err-boxed
unfolding negation
returns-in_err-boxed g c = grind (arith, common_steps)

-- src/truth.rt:83:5
pub returns : goal.returns
unfolding negation
returns g c = grind (arith, common_steps)
