use Rattle.std.proofs.Common.{arith}
use Rattle.std.proofs.lemmas.Grind.{common_steps}
use Rattle.opl_grammar.specs.Items.{stated}
use Rattle.opl_grammar_item.proofs.item.Items.stated.Goals as goal

-- src/item.rt:248:1
pub returns-in_err-t : goal.returns-in_err-t
unfolding stated
returns-in_err-t g c = grind (arith, common_steps)

-- src/item.rt:248:1
pub returns : goal.returns
unfolding stated
returns g c = grind (arith, common_steps)
