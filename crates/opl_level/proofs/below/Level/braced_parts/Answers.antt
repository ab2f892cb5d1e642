use Rattle.std.proofs.Common.{arith}
use Rattle.std.proofs.lemmas.Grind.{common_steps}
use Rattle.opl_grammar.specs.Rules.{braced_parts}
use Rattle.opl_level.proofs.below.Level.braced_parts.Goals as goal

-- src/bracket.rt:95:21
pub returns-in_err-first : goal.returns-in_err-first
unfolding braced_parts
returns-in_err-first g c = grind (arith, common_steps)

-- src/bracket.rt:90:5
pub returns-then-sees_sign : goal.returns-then-sees_sign
unfolding braced_parts
returns-then-sees_sign g c = grind (arith, common_steps)

-- src/bracket.rt:90:5
pub returns-else-sees_sign : goal.returns-else-sees_sign
unfolding braced_parts
returns-else-sees_sign g c = grind (arith, common_steps)
