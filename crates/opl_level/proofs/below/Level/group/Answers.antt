use Rattle.std.proofs.Common.{arith}
use Rattle.std.proofs.lemmas.Grind.{common_steps}
use Rattle.opl_grammar.specs.Rules.{group}
use Rattle.opl_level.proofs.below.Level.group.Goals as goal

-- src/params.rt:56:21
pub returns-in_err-first : goal.returns-in_err-first
unfolding group
returns-in_err-first g c = grind (arith, common_steps)

-- src/params.rt:57:24
pub returns-in_err-patterns : goal.returns-in_err-patterns
unfolding group
returns-in_err-patterns g c = grind (arith, common_steps)

-- src/params.rt:58:30
pub returns-in_err-patterns-2 : goal.returns-in_err-patterns-2
unfolding group
returns-in_err-patterns-2 g c = grind (arith, common_steps)

-- src/params.rt:59:36
pub returns-in_err-first-2 : goal.returns-in_err-first-2
unfolding group
returns-in_err-first-2 g c = grind (arith, common_steps)

-- src/params.rt:67:12
pub returns-in_err-boxed : goal.returns-in_err-boxed
unfolding group
returns-in_err-boxed g c = grind (arith, common_steps)

-- src/params.rt:49:5
pub returns : goal.returns
unfolding group
returns g c = grind (arith, common_steps)
