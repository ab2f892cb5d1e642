use Rattle.std.proofs.Common.{arith}
use Rattle.std.proofs.lemmas.Grind.{common_steps}
use Rattle.opl_grammar.specs.Rules.{asked}
use Rattle.opl_level.proofs.below.Level.asked.Goals as goal

-- src/prim.rt:142:9
pub returns-in_err-expect_sign : goal.returns-in_err-expect_sign
unfolding asked
returns-in_err-expect_sign g c = grind (arith, common_steps)

-- src/prim.rt:143:21
pub returns-in_err-inner : goal.returns-in_err-inner
unfolding asked
returns-in_err-inner g c = grind (arith, common_steps)

-- src/prim.rt:144:27
pub returns-in_err-inner-2 : goal.returns-in_err-inner-2
unfolding asked
returns-in_err-inner-2 g c = grind (arith, common_steps)

-- src/prim.rt:136:5
pub returns : goal.returns
unfolding asked
returns g c = grind (arith, common_steps)
