use Rattle.std.proofs.Common.{arith}
use Rattle.std.proofs.lemmas.Grind.{common_steps}
use Rattle.opl_grammar.specs.Rules.{keyed_parts}
use Rattle.opl_level.proofs.below.Level.keyed_parts.Goals as goal

-- src/bracket.rt:138:21
pub returns-in_err-first : goal.returns-in_err-first
unfolding keyed_parts
returns-in_err-first g c = grind (arith, common_steps)

-- src/bracket.rt:139:29
pub returns-in_err-first-2 : goal.returns-in_err-first-2
unfolding keyed_parts
returns-in_err-first-2 g c = grind (arith, common_steps)

-- src/bracket.rt:140:12
pub returns-in_err-with_first : goal.returns-in_err-with_first
unfolding keyed_parts
returns-in_err-with_first g c = grind (arith, common_steps)

-- src/bracket.rt:133:5
pub returns : goal.returns
unfolding keyed_parts
returns g c = grind (arith, common_steps)
