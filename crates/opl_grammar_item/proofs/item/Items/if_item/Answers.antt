use Rattle.std.proofs.Common.{arith}
use Rattle.std.proofs.lemmas.Grind.{common_steps}
use Rattle.opl_grammar.specs.Items.{if_item}
use Rattle.opl_grammar_item.proofs.item.Items.if_item.Goals as goal

-- src/item.rt:103:1
pub returns-in_err-expect_word : goal.returns-in_err-expect_word
unfolding if_item
returns-in_err-expect_word g c = grind (arith, common_steps)

-- src/item.rt:103:1
pub returns-in_err-condition : goal.returns-in_err-condition
unfolding if_item
returns-in_err-condition g c = grind (arith, common_steps)

-- src/item.rt:103:1
pub returns-in_err-boxed : goal.returns-in_err-boxed
unfolding if_item
returns-in_err-boxed g c = grind (arith, common_steps)

-- src/item.rt:103:1
pub returns : goal.returns
unfolding if_item
returns g c = grind (arith, common_steps)
