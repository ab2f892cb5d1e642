use Rattle.std.proofs.Common.{arith}
use Rattle.std.proofs.lemmas.Grind.{common_steps}
use Rattle.opl_grammar.specs.Rules.{record_pattern}
use Rattle.opl_level.proofs.below.Level.record_pattern.Goals as goal

-- src/params.rt:29:9
pub returns-in_err-expect_sign : goal.returns-in_err-expect_sign
unfolding record_pattern
returns-in_err-expect_sign g c = grind (arith, common_steps)

-- src/params.rt:30:21
pub returns-in_err-names : goal.returns-in_err-names
unfolding record_pattern
returns-in_err-names g c = grind (arith, common_steps)

-- src/params.rt:31:35
pub returns-in_err-first : goal.returns-in_err-first
unfolding record_pattern
returns-in_err-first g c = grind (arith, common_steps)

-- src/params.rt:23:5
pub returns : goal.returns
unfolding record_pattern
returns g c = grind (arith, common_steps)
