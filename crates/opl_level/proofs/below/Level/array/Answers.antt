use Rattle.std.proofs.Common.{arith}
use Rattle.std.proofs.lemmas.Grind.{common_steps}
use Rattle.opl_grammar.specs.Rules.{array}
use Rattle.opl_level.proofs.below.Level.array.Goals as goal

-- src/prim.rt:86:9
pub returns-in_err-expect_sign : goal.returns-in_err-expect_sign
unfolding array
returns-in_err-expect_sign g c = grind (arith, common_steps)

-- src/prim.rt:87:21
pub returns-in_err-parts : goal.returns-in_err-parts
unfolding array
returns-in_err-parts g c = grind (arith, common_steps)

-- src/prim.rt:88:27
pub returns-in_err-parts-2 : goal.returns-in_err-parts-2
unfolding array
returns-in_err-parts-2 g c = grind (arith, common_steps)

-- src/prim.rt:80:5
pub returns : goal.returns
unfolding array
returns g c = grind (arith, common_steps)
