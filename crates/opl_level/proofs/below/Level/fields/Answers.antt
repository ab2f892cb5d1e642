use Rattle.std.proofs.Common.{arith}
use Rattle.std.proofs.lemmas.Grind.{common_steps}
use Rattle.opl_grammar.specs.Rules.{fields}
use Rattle.opl_level.proofs.below.Level.fields.Goals as goal

-- src/bracket.rt:230:21
pub returns-in_err-first : goal.returns-in_err-first
unfolding fields
returns-in_err-first g c = grind (arith, common_steps)

-- src/bracket.rt:222:5
pub returns : goal.returns
unfolding fields
returns g c = grind (arith, common_steps)
