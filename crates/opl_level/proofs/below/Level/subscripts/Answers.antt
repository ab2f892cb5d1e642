use Rattle.std.proofs.Common.{arith}
use Rattle.std.proofs.lemmas.Grind.{common_steps}
use Rattle.opl_grammar.specs.Rules.{subscripts}
use Rattle.opl_level.proofs.below.Level.subscripts.Goals as goal

-- src/prim.rt:218:9
pub returns-in_err-expect_sign : goal.returns-in_err-expect_sign
unfolding subscripts
returns-in_err-expect_sign g c = grind (arith, common_steps)

-- src/prim.rt:219:21
pub returns-in_err-parts : goal.returns-in_err-parts
unfolding subscripts
returns-in_err-parts g c = grind (arith, common_steps)

-- src/prim.rt:220:35
pub returns-in_err-first : goal.returns-in_err-first
unfolding subscripts
returns-in_err-first g c = grind (arith, common_steps)

-- src/prim.rt:212:5
pub returns : goal.returns
unfolding subscripts
returns g c = grind (arith, common_steps)
