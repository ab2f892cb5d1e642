use Rattle.std.proofs.Common.{arith}
use Rattle.std.proofs.lemmas.Grind.{common_steps}
use Rattle.opl_grammar.specs.Rules.{call}
use Rattle.opl_level.proofs.below.Level.call.Goals as goal

-- src/prim.rt:127:18
pub returns-in_err-op : goal.returns-in_err-op
unfolding call
returns-in_err-op g c = grind (arith, common_steps)

-- src/prim.rt:129:9
pub returns-in_err-expect_sign : goal.returns-in_err-expect_sign
unfolding call
returns-in_err-expect_sign g c = grind (arith, common_steps)

-- src/prim.rt:130:21
pub returns-in_err-inner : goal.returns-in_err-inner
unfolding call
returns-in_err-inner g c = grind (arith, common_steps)

-- src/prim.rt:131:27
pub returns-in_err-inner-2 : goal.returns-in_err-inner-2
unfolding call
returns-in_err-inner-2 g c = grind (arith, common_steps)

-- src/prim.rt:121:5
pub returns : goal.returns
unfolding call
returns g c = grind (arith, common_steps)
