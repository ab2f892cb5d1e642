use Rattle.std.proofs.Common.{arith}
use Rattle.std.proofs.lemmas.Grind.{common_steps}
use Rattle.opl_grammar.specs.Rules.{ends}
use Rattle.opl_level.proofs.below.Level.ends.Goals as goal

-- src/bracket.rt:165:19
pub returns-in_err-low : goal.returns-in_err-low
unfolding ends
returns-in_err-low g c = grind (arith, common_steps)

-- src/bracket.rt:157:5
pub returns : goal.returns
unfolding ends
returns g c = grind (arith, common_steps)
