use Rattle.std.proofs.Common.{arith}
use Rattle.std.proofs.lemmas.Grind.{common_steps}
use Rattle.opl_grammar.specs.Rules.{pattern}
use Rattle.opl_level.proofs.below.Level.pattern.Goals as goal

-- src/params.rt:44:36
pub returns-in_err-name : goal.returns-in_err-name
unfolding pattern
returns-in_err-name g c = grind (arith, common_steps)

-- src/params.rt:36:5
pub returns-then-sees_sign : goal.returns-then-sees_sign
unfolding pattern
returns-then-sees_sign g c = grind (arith, common_steps)

-- src/params.rt:36:5
pub returns-in_ok-name : goal.returns-in_ok-name
unfolding pattern
returns-in_ok-name g c = grind (arith, common_steps)
