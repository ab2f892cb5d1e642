use Rattle.std.proofs.Common.{arith}
use Rattle.std.proofs.lemmas.Grind.{common_steps}
use Rattle.opl_grammar.specs.Rules.{group_step}
use Rattle.opl_level.proofs.below.Level.group_step.Goals as goal

-- src/params.rt:76:25
pub returns-in_err-separator : goal.returns-in_err-separator
unfolding group_step
returns-in_err-separator g c = grind (arith, common_steps)

-- src/params.rt:77:21
pub returns-in_err-group : goal.returns-in_err-group
unfolding group_step
returns-in_err-group g c = grind (arith, common_steps)

-- src/params.rt:71:5
pub returns : goal.returns
unfolding group_step
returns g c = grind (arith, common_steps)
