use Rattle.std.proofs.Common.{arith}
use Rattle.std.proofs.lemmas.Grind.{common_steps}
use Rattle.opl_grammar.specs.Rules.{add}
use Rattle.opl_level.proofs.below.Level.add.Goals as goal

-- src/product.rt:145:21
pub returns-in_err-first : goal.returns-in_err-first
unfolding add
returns-in_err-first g c = grind (arith, common_steps)

-- src/product.rt:146:29
pub returns-in_err-first-2 : goal.returns-in_err-first-2
unfolding add
returns-in_err-first-2 g c = grind (arith, common_steps)

-- src/product.rt:152:12
pub returns-in_err-boxed : goal.returns-in_err-boxed
unfolding add
returns-in_err-boxed g c = grind (arith, common_steps)

-- src/product.rt:139:5
pub returns : goal.returns
unfolding add
returns g c = grind (arith, common_steps)
