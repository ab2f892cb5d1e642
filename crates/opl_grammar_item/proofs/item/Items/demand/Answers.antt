use Rattle.std.proofs.Common.{arith}
use Rattle.std.proofs.lemmas.Grind.{common_steps}
use Rattle.opl_grammar.specs.Items.{demand}
use Rattle.opl_grammar_item.proofs.item.Items.demand.Goals as goal

-- src/item.rt:138:1
pub returns-in_err-expect_sign : goal.returns-in_err-expect_sign
unfolding demand
returns-in_err-expect_sign g c = grind (arith, common_steps)

-- src/item.rt:138:1
pub returns-in_err-amount : goal.returns-in_err-amount
unfolding demand
returns-in_err-amount g c = grind (arith, common_steps)

-- src/item.rt:138:1
pub returns-in_err-amount-2 : goal.returns-in_err-amount-2
unfolding demand
returns-in_err-amount-2 g c = grind (arith, common_steps)

-- src/item.rt:138:1
pub returns : goal.returns
unfolding demand
returns g c = grind (arith, common_steps)
