use Rattle.std.proofs.Common.{arith}
use Rattle.std.proofs.lemmas.Grind.{common_steps}
use Rattle.opl_grammar.specs.Rules.{field_suffix}
use Rattle.opl_level.proofs.below.Level.field_suffix.Goals as goal

-- src/prim.rt:231:9
pub returns-in_err-expect_sign : goal.returns-in_err-expect_sign
unfolding field_suffix
returns-in_err-expect_sign g c = grind (arith, common_steps)

-- src/prim.rt:232:34
pub returns-in_err-field_name : goal.returns-in_err-field_name
unfolding field_suffix
returns-in_err-field_name g c = grind (arith, common_steps)

-- src/prim.rt:225:5
pub returns : goal.returns
unfolding field_suffix
returns g c = grind (arith, common_steps)
