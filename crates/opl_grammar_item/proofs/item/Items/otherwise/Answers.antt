use Rattle.std.proofs.Common.{arith}
use Rattle.std.proofs.lemmas.Grind.{common_steps}
use Rattle.opl_grammar.specs.Items.{otherwise}
use Rattle.opl_grammar_item.proofs.item.Items.otherwise.Goals as goal

-- src/item.rt:321:1
pub returns-in_err-expect_word : goal.returns-in_err-expect_word
unfolding otherwise
returns-in_err-expect_word g c = grind (arith, common_steps)

-- src/item.rt:321:1
pub returns : goal.returns
unfolding otherwise
returns g c = grind (arith, common_steps)
