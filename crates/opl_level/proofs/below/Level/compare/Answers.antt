use Rattle.std.proofs.Common.{arith}
use Rattle.std.proofs.lemmas.Grind.{common_steps}
use Rattle.opl_grammar.specs.Rules.{compare}
use Rattle.opl_level.proofs.below.Level.compare.Goals as goal

-- src/truth.rt:78:20
pub returns-in_err-left : goal.returns-in_err-left
unfolding compare
returns-in_err-left g c = grind (arith, common_steps)

-- src/truth.rt:72:5
pub returns : goal.returns
unfolding compare
returns g c = grind (arith, common_steps)
