use Rattle.std.proofs.Common.{arith}
use Rattle.std.proofs.lemmas.Grind.{common_steps}
use Rattle.opl_grammar.specs.Rules.{dim}
use Rattle.opl_level.proofs.below.Level.dim.Goals as goal

-- src/bracket.rt:271:19
pub returns-in_err-set : goal.returns-in_err-set
unfolding dim
returns-in_err-set g c = grind (arith, common_steps)

-- src/bracket.rt:265:5
pub returns : goal.returns
unfolding dim
returns g c = grind (arith, common_steps)
