use Rattle.std.proofs.Common.{arith}
use Rattle.std.proofs.lemmas.Grind.{common_steps}
use Rattle.opl_grammar.specs.Rules.{type_tree}
use Rattle.opl_level.proofs.below.Level.type_tree.Goals as goal

-- src/bracket.rt:204:32
pub returns-in_err-name : goal.returns-in_err-name
unfolding type_tree
returns-in_err-name g c = grind (arith, common_steps)

-- src/bracket.rt:194:5
pub returns-then-sees_word : goal.returns-then-sees_word
unfolding type_tree
returns-then-sees_word g c = grind (arith, common_steps)

-- src/bracket.rt:194:5
pub returns-then-sees_sign : goal.returns-then-sees_sign
unfolding type_tree
returns-then-sees_sign g c = grind (arith, common_steps)

-- src/bracket.rt:194:5
pub returns-in_ok-name : goal.returns-in_ok-name
unfolding type_tree
returns-in_ok-name g c = grind (arith, common_steps)
