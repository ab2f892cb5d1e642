use Rattle.std.proofs.Common.{arith}
use Rattle.std.proofs.lemmas.Grind.{common_steps}
use Rattle.opl_grammar.specs.Items.{several_items}
use Rattle.opl_grammar_item.proofs.item.Items.several_items.Goals as goal

-- src/item.rt:279:1
pub returns-in_err-first : goal.returns-in_err-first
unfolding several_items
returns-in_err-first g c = grind (arith, common_steps)

-- src/item.rt:279:1
pub returns-in_err-first-2 : goal.returns-in_err-first-2
unfolding several_items
returns-in_err-first-2 g c = grind (arith, common_steps)

-- src/item.rt:279:1
pub returns : goal.returns
unfolding several_items
returns g c = grind (arith, common_steps)
