use Rattle.std.proofs.Common.{arith}
use Rattle.std.proofs.lemmas.Grind.{common_steps}
use Rattle.opl_grammar.specs.Rules.{set_type}
use Rattle.opl_level.proofs.below.Level.set_type.Goals as goal

-- src/bracket.rt:187:9
pub returns-in_err-expect_sign : goal.returns-in_err-expect_sign
unfolding set_type
returns-in_err-expect_sign g c = grind (arith, common_steps)

-- src/bracket.rt:188:21
pub returns-in_err-inner : goal.returns-in_err-inner
unfolding set_type
returns-in_err-inner g c = grind (arith, common_steps)

-- src/bracket.rt:189:27
pub returns-in_err-inner-2 : goal.returns-in_err-inner-2
unfolding set_type
returns-in_err-inner-2 g c = grind (arith, common_steps)

-- src/bracket.rt:190:30
pub returns-in_err-boxed : goal.returns-in_err-boxed
unfolding set_type
returns-in_err-boxed g c = grind (arith, common_steps)

-- src/bracket.rt:181:5
pub returns : goal.returns
unfolding set_type
returns g c = grind (arith, common_steps)
