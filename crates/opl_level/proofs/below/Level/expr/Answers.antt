use Rattle.std.proofs.Common.{arith}
use Rattle.std.proofs.lemmas.Grind.{common_steps}
use Rattle.opl_grammar.specs.Rules.{expr}
use Rattle.opl_level.proofs.below.Level.expr.Goals as goal

-- src/truth.rt:181:21
pub returns-in_err-first : goal.returns-in_err-first
unfolding expr
returns-in_err-first g c = grind (arith, common_steps)

-- src/truth.rt:182:29
pub returns-in_err-first-2 : goal.returns-in_err-first-2
unfolding expr
returns-in_err-first-2 g c = grind (arith, common_steps)

-- src/truth.rt:191:12
pub returns-in_err-boxed : goal.returns-in_err-boxed
unfolding expr
returns-in_err-boxed g c = grind (arith, common_steps)

-- src/truth.rt:175:5
pub returns : goal.returns
unfolding expr
returns g c = grind (arith, common_steps)
