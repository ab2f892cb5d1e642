use Rattle.std.proofs.Common.{arith}
use Rattle.std.proofs.lemmas.Grind.{common_steps}
use Rattle.opl_grammar.specs.Items.{block}
use Rattle.opl_grammar_item.proofs.item.Items.block.Goals as goal

-- src/item.rt:63:1
pub returns-in_err-expect_sign : goal.returns-in_err-expect_sign
unfolding block
returns-in_err-expect_sign g c = grind (arith, common_steps)

-- src/item.rt:63:1
pub returns-in_err-items : goal.returns-in_err-items
unfolding block
returns-in_err-items g c = grind (arith, common_steps)

-- src/item.rt:63:1
pub returns-in_err-items-2 : goal.returns-in_err-items-2
unfolding block
returns-in_err-items-2 g c = grind (arith, common_steps)

-- src/item.rt:63:1
pub returns : goal.returns
unfolding block
returns g c = grind (arith, common_steps)
