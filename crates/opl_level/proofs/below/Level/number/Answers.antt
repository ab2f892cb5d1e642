use Rattle.std.proofs.Common.{arith}
use Rattle.std.proofs.lemmas.Grind.{common_steps}
use Rattle.opl_grammar.specs.Rules.{number}
use Rattle.opl_level.proofs.below.Level.number.Goals as goal

-- src/prim.rt:36:21
pub returns-in_err-value : goal.returns-in_err-value
unfolding number
returns-in_err-value g c = grind (arith, common_steps)

-- src/prim.rt:30:5
pub returns : goal.returns
unfolding number
returns g c = grind (arith, common_steps)
