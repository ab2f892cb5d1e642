use Rattle.std.proofs.Common.{arith}
use Rattle.std.proofs.lemmas.Grind.{common_steps}
use Rattle.opl_grammar.specs.Items.{items}
use Rattle.opl_grammar_item.proofs.item.Items.items.Goals as goal

-- src/item.rt:293:1
pub returns-then-starts_item : goal.returns-then-starts_item
unfolding items
returns-then-starts_item g c = grind (arith, common_steps)

-- src/item.rt:293:1
pub returns-else-starts_item : goal.returns-else-starts_item
unfolding items
returns-else-starts_item g c = grind (arith, common_steps)
