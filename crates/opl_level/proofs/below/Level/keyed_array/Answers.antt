use Rattle.std.proofs.Common.{arith}
use Rattle.std.proofs.lemmas.Grind.{common_steps}
use Rattle.opl_grammar.specs.Rules.{keyed_array}
use Rattle.opl_level.proofs.below.Level.keyed_array.Goals as goal

-- src/prim.rt:99:9
pub returns-in_err-expect_sign : goal.returns-in_err-expect_sign
unfolding keyed_array
returns-in_err-expect_sign g c = grind (arith, common_steps)

-- src/prim.rt:100:21
pub returns-in_err-parts : goal.returns-in_err-parts
unfolding keyed_array
returns-in_err-parts g c = grind (arith, common_steps)

-- src/prim.rt:101:27
pub returns-in_err-parts-2 : goal.returns-in_err-parts-2
unfolding keyed_array
returns-in_err-parts-2 g c = grind (arith, common_steps)

-- src/prim.rt:93:5
pub returns : goal.returns
unfolding keyed_array
returns g c = grind (arith, common_steps)
