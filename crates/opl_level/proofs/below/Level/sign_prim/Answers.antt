use Rattle.std.proofs.Common.{arith}
use Rattle.std.proofs.lemmas.Grind.{common_steps}
use Rattle.opl_grammar.specs.Rules.{sign_prim}
use Rattle.opl_level.proofs.below.Level.sign_prim.Goals as goal

-- src/prim.rt:176:5
pub returns-then-sees_sign : goal.returns-then-sees_sign
unfolding sign_prim
returns-then-sees_sign g c = grind (arith, common_steps)

-- src/prim.rt:176:5
pub returns-then-sees_sign-2 : goal.returns-then-sees_sign-2
unfolding sign_prim
returns-then-sees_sign-2 g c = grind (arith, common_steps)

-- src/prim.rt:176:5
pub returns-then-sees_sign-3 : goal.returns-then-sees_sign-3
unfolding sign_prim
returns-then-sees_sign-3 g c = grind (arith, common_steps)

-- src/prim.rt:176:5
pub returns-then-sees_sign-4 : goal.returns-then-sees_sign-4
unfolding sign_prim
returns-then-sees_sign-4 g c = grind (arith, common_steps)

-- src/prim.rt:176:5
pub returns-then-sees_sign-5 : goal.returns-then-sees_sign-5
unfolding sign_prim
returns-then-sees_sign-5 g c = grind (arith, common_steps)

-- src/prim.rt:176:5
pub returns-else-sees_sign-5 : goal.returns-else-sees_sign-5
unfolding sign_prim
returns-else-sees_sign-5 g c = grind (arith, common_steps)
