use Rattle.std.proofs.Common.{arith}
use Rattle.std.proofs.lemmas.Grind.{common_steps}
use Rattle.opl_grammar.specs.Rules.{record_prim}
use Rattle.opl_level.proofs.below.Level.record_prim.Goals as goal

-- src/prim.rt:60:9
pub returns-in_err-expect_sign : goal.returns-in_err-expect_sign
unfolding record_prim
returns-in_err-expect_sign g c = grind (arith, common_steps)

-- src/prim.rt:61:21
pub returns-in_err-parts : goal.returns-in_err-parts
unfolding record_prim
returns-in_err-parts g c = grind (arith, common_steps)

-- src/prim.rt:62:35
pub returns-in_err-first : goal.returns-in_err-first
unfolding record_prim
returns-in_err-first g c = grind (arith, common_steps)

-- src/prim.rt:54:5
pub returns : goal.returns
unfolding record_prim
returns g c = grind (arith, common_steps)
