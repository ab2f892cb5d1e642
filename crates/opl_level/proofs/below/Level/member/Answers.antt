use Rattle.std.proofs.Common.{arith}
use Rattle.std.proofs.lemmas.Grind.{common_steps}
use Rattle.opl_grammar.specs.Rules.{member}
use Rattle.opl_level.proofs.below.Level.member.Goals as goal

-- src/truth.rt:46:26
pub returns-in_err-left : goal.returns-in_err-left
unfolding member
returns-in_err-left g c = grind (arith, common_steps)

-- src/truth.rt:47:27
pub returns-in_err-left-2 : goal.returns-in_err-left-2
unfolding member
returns-in_err-left-2 g c = grind (arith, common_steps)

-- src/truth.rt:36:5
pub returns : goal.returns
unfolding member
returns g c = grind (arith, common_steps)
