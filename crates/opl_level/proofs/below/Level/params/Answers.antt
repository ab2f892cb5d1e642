use Rattle.std.proofs.Common.{arith}
use Rattle.std.proofs.lemmas.Grind.{common_steps}
use Rattle.opl_grammar.specs.Rules.{params}
use Rattle.opl_level.proofs.below.Level.params.Goals as goal

-- src/params.rt:113:21
pub returns-in_err-first : goal.returns-in_err-first
unfolding params
returns-in_err-first g c = grind (arith, common_steps)

-- src/params.rt:114:22
pub returns-in_err-groups : goal.returns-in_err-groups
unfolding params
returns-in_err-groups g c = grind (arith, common_steps)

-- src/params.rt:115:42
pub returns-in_err-first-2 : goal.returns-in_err-first-2
unfolding params
returns-in_err-first-2 g c = grind (arith, common_steps)

-- src/params.rt:122:12
pub returns-in_err-boxed : goal.returns-in_err-boxed
unfolding params
returns-in_err-boxed g c = grind (arith, common_steps)

-- src/params.rt:107:5
pub returns : goal.returns
unfolding params
returns g c = grind (arith, common_steps)
