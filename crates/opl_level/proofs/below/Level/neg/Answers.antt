use Rattle.std.proofs.Common.{arith}
use Rattle.std.proofs.lemmas.Grind.{common_steps}
use Rattle.opl_grammar.specs.Rules.{neg}
use Rattle.opl_level.proofs.below.Level.neg.Goals as goal

-- src/truth.rt:103:33
pub returns-in_err-compare : goal.returns-in_err-compare
unfolding neg
returns-in_err-compare g c = grind (arith, common_steps)

-- src/truth.rt:95:5
pub returns-then-sees_word : goal.returns-then-sees_word
unfolding neg
returns-then-sees_word g c = grind (arith, common_steps)

-- src/truth.rt:95:5
pub returns-in_ok-compare : goal.returns-in_ok-compare
unfolding neg
returns-in_ok-compare g c = grind (arith, common_steps)
