use Rattle.std.proofs.Common.{arith}
use Rattle.std.proofs.lemmas.Grind.{common_steps}
use Rattle.opl_grammar.specs.Items.{instr}
use Rattle.opl_grammar_item.proofs.item.Items.instr.Goals as goal

-- src/item.rt:394:1
pub returns-then-sees_word : goal.returns-then-sees_word
unfolding instr
returns-then-sees_word g c = grind (arith, common_steps)

-- src/item.rt:394:1
pub returns-else-sees_word : goal.returns-else-sees_word
unfolding instr
returns-else-sees_word g c = grind (arith, common_steps)
