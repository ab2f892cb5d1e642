use Rattle.std.proofs.Common.{arith}
use Rattle.std.proofs.lemmas.Grind.{common_steps}
use Rattle.opl_grammar.specs.Items.{solve}
use Rattle.opl_grammar_item.proofs.item.Items.solve.Goals as goal

-- src/item.rt:363:1
pub returns-in_err-expect_word : goal.returns-in_err-expect_word
unfolding solve
returns-in_err-expect_word g c = grind (arith, common_steps)

-- src/item.rt:363:1
pub returns-in_err-block : goal.returns-in_err-block
unfolding solve
returns-in_err-block g c = grind (arith, common_steps)

-- src/item.rt:363:1
pub returns-in_err-block-2 : goal.returns-in_err-block-2
unfolding solve
returns-in_err-block-2 g c = grind (arith, common_steps)

-- src/item.rt:363:1
pub returns : goal.returns
unfolding solve
returns g c = grind (arith, common_steps)
