use Rattle.std.proofs.Common.{arith}
use Rattle.std.proofs.lemmas.Grind.{common_steps}
use Rattle.opl_grammar.specs.Rules.{conclusion}
use Rattle.opl_level.proofs.below.Level.conclusion.Goals as goal

-- src/truth.rt:138:9
pub returns-in_err-expect_sign : goal.returns-in_err-expect_sign
unfolding conclusion
returns-in_err-expect_sign g c = grind (arith, common_steps)

-- src/truth.rt:132:5
pub returns : goal.returns
unfolding conclusion
returns g c = grind (arith, common_steps)
