use Rattle.std.proofs.Common.{arith}
use Rattle.std.proofs.lemmas.Grind.{common_steps}
use Rattle.opl_grammar.specs.Rules.{set}
use Rattle.opl_level.proofs.below.Level.set.Goals as goal

-- src/product.rt:200:19
pub returns-in_err-low : goal.returns-in_err-low
unfolding set
returns-in_err-low g c = grind (arith, common_steps)

-- src/product.rt:201:27
pub returns-in_err-low-2 : goal.returns-in_err-low-2
unfolding set
returns-in_err-low-2 g c = grind (arith, common_steps)

-- src/product.rt:207:12
pub returns-in_err-boxed : goal.returns-in_err-boxed
unfolding set
returns-in_err-boxed g c = grind (arith, common_steps)

-- src/product.rt:194:5
pub returns : goal.returns
unfolding set
returns g c = grind (arith, common_steps)
