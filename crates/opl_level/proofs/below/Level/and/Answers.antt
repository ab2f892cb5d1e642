use Rattle.std.proofs.Common.{arith}
use Rattle.std.proofs.lemmas.Grind.{common_steps}
use Rattle.opl_grammar.specs.Rules.{and}
use Rattle.opl_level.proofs.below.Level.and.Goals as goal

-- src/truth.rt:114:21
pub returns-in_err-first : goal.returns-in_err-first
unfolding and
returns-in_err-first g c = grind (arith, common_steps)

-- src/truth.rt:115:29
pub returns-in_err-first-2 : goal.returns-in_err-first-2
unfolding and
returns-in_err-first-2 g c = grind (arith, common_steps)

-- src/truth.rt:108:5
pub returns : goal.returns
unfolding and
returns g c = grind (arith, common_steps)
