use Rattle.std.proofs.Common.{arith}
use Rattle.std.proofs.lemmas.Grind.{common_steps}
use Rattle.opl_grammar.specs.Rules.{word_prim}
use Rattle.opl_level.proofs.below.Level.word_prim.Goals as goal

-- src/prim.rt:161:5
pub returns-then-sees_word : goal.returns-then-sees_word
unfolding word_prim
returns-then-sees_word g c = grind (arith, common_steps)

-- src/prim.rt:161:5
pub returns-then-is_some : goal.returns-then-is_some
unfolding word_prim
returns-then-is_some g c = grind (arith, common_steps)

-- src/prim.rt:161:5
pub returns-else-is_some : goal.returns-else-is_some
unfolding word_prim
returns-else-is_some g c = grind (arith, common_steps)
