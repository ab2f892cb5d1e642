use Rattle.std.proofs.Common.{arith}
use Rattle.std.proofs.lemmas.Grind.{common_steps}
use Rattle.opl_grammar.specs.Items.{item}
use Rattle.opl_grammar_item.proofs.item.Items.item.Goals as goal

-- src/item.rt:261:1
pub returns-then-sees_sign : goal.returns-then-sees_sign
unfolding item
returns-then-sees_sign g c = grind (arith, common_steps)

-- src/item.rt:261:1
pub returns-then-sees_word : goal.returns-then-sees_word
unfolding item
returns-then-sees_word g c = grind (arith, common_steps)

-- src/item.rt:261:1
pub returns-then-sees_word-2 : goal.returns-then-sees_word-2
unfolding item
returns-then-sees_word-2 g c = grind (arith, common_steps)

-- src/item.rt:261:1
pub returns-else-sees_word-2 : goal.returns-else-sees_word-2
unfolding item
returns-else-sees_word-2 g c = grind (arith, common_steps)
