use Rattle.std.proofs.Common.{arith}
use Rattle.std.proofs.lemmas.Grind.{common_steps}
use Rattle.opl_grammar.specs.Rules.{mul}
use Rattle.opl_level.proofs.below.Level.mul.Goals as goal

-- src/product.rt:114:15
pub returns-in_err-inner : goal.returns-in_err-inner
unfolding mul
returns-in_err-inner g c = grind (arith, common_steps)

-- src/product.rt:115:40
pub returns-in_err-boxed-in-Open : goal.returns-in_err-boxed-in-Open
unfolding mul
returns-in_err-boxed-in-Open g c = grind (arith, common_steps)

-- src/product.rt:120:46
pub returns-in_err-first-in-Sign : goal.returns-in_err-first-in-Sign
unfolding mul
returns-in_err-first-in-Sign g c = grind (arith, common_steps)

-- src/product.rt:122:20
pub returns-in_err-boxed-in-Sign : goal.returns-in_err-boxed-in-Sign
unfolding mul
returns-in_err-boxed-in-Sign g c = grind (arith, common_steps)

-- src/product.rt:108:5
pub returns-in_ok-boxed-in-Open : goal.returns-in_ok-boxed-in-Open
unfolding mul
returns-in_ok-boxed-in-Open g c = grind (arith, common_steps)

-- src/product.rt:108:5
pub returns-in_ok-boxed-in-Sign : goal.returns-in_ok-boxed-in-Sign
unfolding mul
returns-in_ok-boxed-in-Sign g c = grind (arith, common_steps)
