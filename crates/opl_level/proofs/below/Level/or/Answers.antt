use Rattle.std.proofs.Common.{arith}
use Rattle.std.proofs.lemmas.Grind.{common_steps}
use Rattle.opl_grammar.specs.Rules.{or}
use Rattle.opl_level.proofs.below.Level.or.Goals as goal

-- src/truth.rt:126:21
pub returns-in_err-first : goal.returns-in_err-first
unfolding or
returns-in_err-first g c = grind (arith, common_steps)

-- src/truth.rt:127:29
pub returns-in_err-first-2 : goal.returns-in_err-first-2
unfolding or
returns-in_err-first-2 g c = grind (arith, common_steps)

-- src/truth.rt:120:5
pub returns : goal.returns
unfolding or
returns g c = grind (arith, common_steps)
