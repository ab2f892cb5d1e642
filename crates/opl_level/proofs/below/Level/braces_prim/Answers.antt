use Rattle.std.proofs.Common.{arith}
use Rattle.std.proofs.lemmas.Grind.{common_steps}
use Rattle.opl_grammar.specs.Rules.{braces_prim}
use Rattle.opl_level.proofs.below.Level.braces_prim.Goals as goal

-- src/prim.rt:73:9
pub returns-in_err-expect_sign : goal.returns-in_err-expect_sign
unfolding braces_prim
returns-in_err-expect_sign g c = grind (arith, common_steps)

-- src/prim.rt:74:22
pub returns-in_err-inside : goal.returns-in_err-inside
unfolding braces_prim
returns-in_err-inside g c = grind (arith, common_steps)

-- src/prim.rt:75:28
pub returns-in_err-inside-2 : goal.returns-in_err-inside-2
unfolding braces_prim
returns-in_err-inside-2 g c = grind (arith, common_steps)

-- src/prim.rt:67:5
pub returns : goal.returns
unfolding braces_prim
returns g c = grind (arith, common_steps)
