use Rattle.std.proofs.Common.{arith}
use Rattle.std.proofs.lemmas.Grind.{common_steps}
use Rattle.opl_grammar.specs.Items.{for_all}
use Rattle.opl_grammar_item.proofs.item.Items.for_all.Goals as goal

-- src/item.rt:88:1
pub returns-in_err-expect_word : goal.returns-in_err-expect_word
unfolding for_all
returns-in_err-expect_word g c = grind (arith, common_steps)

-- src/item.rt:88:1
pub returns-in_err-params : goal.returns-in_err-params
unfolding for_all
returns-in_err-params g c = grind (arith, common_steps)

-- src/item.rt:88:1
pub returns-in_err-boxed : goal.returns-in_err-boxed
unfolding for_all
returns-in_err-boxed g c = grind (arith, common_steps)

-- src/item.rt:88:1
pub returns : goal.returns
unfolding for_all
returns g c = grind (arith, common_steps)
