use Rattle.std.proofs.Common.{arith}
use Rattle.std.proofs.lemmas.Grind.{common_steps}
use Rattle.opl_grammar.specs.Rules.{operand}
use Rattle.opl_level.proofs.below.Level.operand.Goals as goal

-- src/product.rt:73:44
pub returns-in_err-post : goal.returns-in_err-post
unfolding operand
returns-in_err-post g c = grind (arith, common_steps)

-- src/product.rt:74:30
pub returns-in_err-boxed : goal.returns-in_err-boxed
unfolding operand
returns-in_err-boxed g c = grind (arith, common_steps)

-- src/product.rt:63:5
pub returns-then-sees_sign : goal.returns-then-sees_sign
unfolding operand
returns-then-sees_sign g c = grind (arith, common_steps)

-- src/product.rt:63:5
pub returns-then-is_some : goal.returns-then-is_some
unfolding operand
returns-then-is_some g c = grind (arith, common_steps)

-- src/product.rt:63:5
pub returns-in_ok-boxed : goal.returns-in_ok-boxed
unfolding operand
returns-in_ok-boxed g c = grind (arith, common_steps)
