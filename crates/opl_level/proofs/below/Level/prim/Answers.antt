use Rattle.std.proofs.Common.{arith}
use Rattle.std.proofs.lemmas.Grind.{common_steps}
use Rattle.opl_grammar.specs.Rules.{prim}
use Rattle.opl_level.proofs.below.Level.prim.Goals as goal

-- src/prim.rt:203:32
pub returns-in_err-name : goal.returns-in_err-name
unfolding prim
returns-in_err-name g c = grind (arith, common_steps)

-- src/prim.rt:197:5
pub returns-in_ok-name : goal.returns-in_ok-name
unfolding prim
returns-in_ok-name g c = grind (arith, common_steps)

-- src/prim.rt:197:5
pub returns-then-sees_number : goal.returns-then-sees_number
unfolding prim
returns-then-sees_number g c = grind (arith, common_steps)

-- src/prim.rt:197:5
pub returns-else-sees_number : goal.returns-else-sees_number
unfolding prim
returns-else-sees_number g c = grind (arith, common_steps)
