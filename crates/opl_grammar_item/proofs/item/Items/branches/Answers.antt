use Rattle.std.proofs.Common.{arith}
use Rattle.std.proofs.lemmas.Grind.{common_steps}
use Rattle.opl_grammar.specs.Items.{branches}
use Rattle.opl_grammar_item.proofs.item.Items.branches.Goals as goal

-- src/item.rt:345:1
pub returns-in_err-condition : goal.returns-in_err-condition
unfolding branches
returns-in_err-condition g c = grind (arith, common_steps)

-- src/item.rt:345:1
pub returns-in_err-condition-2 : goal.returns-in_err-condition-2
unfolding branches
returns-in_err-condition-2 g c = grind (arith, common_steps)

-- src/item.rt:345:1
pub returns-in_err-parts : goal.returns-in_err-parts
unfolding branches
returns-in_err-parts g c = grind (arith, common_steps)

-- src/item.rt:345:1
pub returns-in_err-parts-2 : goal.returns-in_err-parts-2
unfolding branches
returns-in_err-parts-2 g c = grind (arith, common_steps)

-- src/item.rt:345:1
pub returns-in_err-condition-3 : goal.returns-in_err-condition-3
unfolding branches
returns-in_err-condition-3 g c = grind (arith, common_steps)

-- src/item.rt:345:1
pub returns : goal.returns
unfolding branches
returns g c = grind (arith, common_steps)
