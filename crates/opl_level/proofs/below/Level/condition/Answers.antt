use Rattle.std.proofs.Common.{arith}
use Rattle.std.proofs.lemmas.Grind.{common_steps}
use Rattle.opl_grammar.specs.Rules.{condition}
use Rattle.opl_level.proofs.below.Level.condition.Goals as goal

-- src/params.rt:87:9
pub returns-in_err-expect_sign : goal.returns-in_err-expect_sign
unfolding condition
returns-in_err-expect_sign g c = grind (arith, common_steps)

-- src/params.rt:82:5
pub returns : goal.returns
unfolding condition
returns g c = grind (arith, common_steps)
