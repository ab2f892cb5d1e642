use Rattle.std.proofs.Common.{arith}
use Rattle.std.proofs.lemmas.Grind.{common_steps}
use Rattle.opl_grammar.specs.Items.{optimize}
use Rattle.opl_grammar_item.proofs.item.Items.optimize.Goals as goal

-- src/item.rt:377:1
pub returns-in_err-best : goal.returns-in_err-best
unfolding optimize
returns-in_err-best g c = grind (arith, common_steps)

-- src/item.rt:377:1
pub returns-in_err-objective : goal.returns-in_err-objective
unfolding optimize
returns-in_err-objective g c = grind (arith, common_steps)

-- src/item.rt:377:1
pub returns-in_err-objective-2 : goal.returns-in_err-objective-2
unfolding optimize
returns-in_err-objective-2 g c = grind (arith, common_steps)

-- src/item.rt:377:1
pub returns-in_err-objective-3 : goal.returns-in_err-objective-3
unfolding optimize
returns-in_err-objective-3 g c = grind (arith, common_steps)

-- src/item.rt:377:1
pub returns-in_err-parts : goal.returns-in_err-parts
unfolding optimize
returns-in_err-parts g c = grind (arith, common_steps)

-- src/item.rt:377:1
pub returns-in_err-objective-4 : goal.returns-in_err-objective-4
unfolding optimize
returns-in_err-objective-4 g c = grind (arith, common_steps)

-- src/item.rt:377:1
pub returns : goal.returns
unfolding optimize
returns g c = grind (arith, common_steps)
