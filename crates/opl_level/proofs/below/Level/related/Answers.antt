use Rattle.std.proofs.Common.{arith}
use Rattle.std.proofs.lemmas.Grind.{common_steps}
use Rattle.opl_grammar.specs.Rules.{related}
use Rattle.opl_level.proofs.below.Level.related.Goals as goal

-- src/truth.rt:30:26
pub returns-in_err-left : goal.returns-in_err-left
unfolding related
returns-in_err-left g c = grind (arith, common_steps)

-- src/truth.rt:31:29
pub returns-in_err-left-2 : goal.returns-in_err-left-2
unfolding related
returns-in_err-left-2 g c = grind (arith, common_steps)

-- src/truth.rt:20:5
pub returns : goal.returns
unfolding related
returns g c = grind (arith, common_steps)
