use Rattle.std.proofs.Common.{arith}
use Rattle.std.proofs.lemmas.Grind.{common_steps}
use Rattle.opl_grammar.specs.Rules.{suffix}
use Rattle.opl_level.proofs.below.Level.suffix.Goals as goal

-- src/prim.rt:242:39
pub returns-in_err-subscripts : goal.returns-in_err-subscripts
unfolding suffix
returns-in_err-subscripts g c = grind (arith, common_steps)

-- src/prim.rt:236:5
pub returns-in_ok-subscripts : goal.returns-in_ok-subscripts
unfolding suffix
returns-in_ok-subscripts g c = grind (arith, common_steps)

-- src/prim.rt:236:5
pub returns-else-sees_sign : goal.returns-else-sees_sign
unfolding suffix
returns-else-sees_sign g c = grind (arith, common_steps)
