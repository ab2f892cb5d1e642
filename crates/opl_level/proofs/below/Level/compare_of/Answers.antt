use Rattle.std.proofs.Common.{arith}
use Rattle.std.proofs.lemmas.Grind.{common_steps}
use Rattle.opl_grammar.specs.Rules.{compare_of}
use Rattle.opl_level.proofs.below.Level.compare_of.Goals as goal

-- src/truth.rt:52:5
pub returns-then-is_some : goal.returns-then-is_some
unfolding compare_of
returns-then-is_some g c = grind (arith, common_steps)

-- src/truth.rt:52:5
pub returns-then-sees_word : goal.returns-then-sees_word
unfolding compare_of
returns-then-sees_word g c = grind (arith, common_steps)

-- src/truth.rt:52:5
pub returns-else-sees_word : goal.returns-else-sees_word
unfolding compare_of
returns-else-sees_word g c = grind (arith, common_steps)
