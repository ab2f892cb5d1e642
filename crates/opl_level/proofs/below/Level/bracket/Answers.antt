use Rattle.std.proofs.Common.{arith}
use Rattle.std.proofs.lemmas.Grind.{common_steps}
use Rattle.opl_grammar.specs.Rules.{bracket}
use Rattle.opl_level.proofs.below.Level.bracket.Goals as goal

-- src/prim.rt:47:9
pub returns-in_err-expect_sign : goal.returns-in_err-expect_sign
unfolding bracket
returns-in_err-expect_sign g c = grind (arith, common_steps)

-- src/prim.rt:48:21
pub returns-in_err-inner : goal.returns-in_err-inner
unfolding bracket
returns-in_err-inner g c = grind (arith, common_steps)

-- src/prim.rt:49:27
pub returns-in_err-inner-2 : goal.returns-in_err-inner-2
unfolding bracket
returns-in_err-inner-2 g c = grind (arith, common_steps)

-- src/prim.rt:41:5
pub returns : goal.returns
unfolding bracket
returns g c = grind (arith, common_steps)
