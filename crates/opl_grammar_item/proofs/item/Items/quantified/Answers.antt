use Rattle.std.proofs.Common.{arith}
use Rattle.std.proofs.lemmas.Grind.{common_steps}
use Rattle.opl_grammar.specs.Items.{quantified}
use Rattle.opl_grammar_item.proofs.item.Items.quantified.Goals as goal

-- src/item.rt:307:1
pub returns-in_err-params : goal.returns-in_err-params
unfolding quantified
returns-in_err-params g c = grind (arith, common_steps)

-- src/item.rt:307:1
pub returns : goal.returns
unfolding quantified
returns g c = grind (arith, common_steps)
