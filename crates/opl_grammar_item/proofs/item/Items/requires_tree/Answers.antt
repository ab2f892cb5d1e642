use Rattle.std.proofs.Common.{arith}
use Rattle.std.proofs.lemmas.Grind.{common_steps}
use Rattle.opl_grammar.specs.Items.{requires_tree}
use Rattle.opl_grammar_item.proofs.item.Items.requires_tree.Goals as goal

-- src/item.rt:181:1
pub returns-in_err-activity : goal.returns-in_err-activity
unfolding requires_tree
returns-in_err-activity g c = grind (arith, common_steps)

-- src/item.rt:181:1
pub returns-in_err-parts : goal.returns-in_err-parts
unfolding requires_tree
returns-in_err-parts g c = grind (arith, common_steps)

-- src/item.rt:181:1
pub returns-in_err-parts-2 : goal.returns-in_err-parts-2
unfolding requires_tree
returns-in_err-parts-2 g c = grind (arith, common_steps)

-- src/item.rt:181:1
pub returns-in_err-activity-2 : goal.returns-in_err-activity-2
unfolding requires_tree
returns-in_err-activity-2 g c = grind (arith, common_steps)

-- src/item.rt:181:1
pub returns : goal.returns
unfolding requires_tree
returns g c = grind (arith, common_steps)
