use Rattle.std.proofs.Common.{arith}
use Rattle.std.proofs.lemmas.Grind.{common_steps}
use Rattle.opl_grammar.specs.Rules.{keyed}
use Rattle.opl_level.proofs.below.Level.keyed.Goals as goal

-- src/bracket.rt:144:5
pub returns-then-starts_add : goal.returns-then-starts_add
unfolding keyed
returns-then-starts_add g c = grind (arith, common_steps)

-- src/bracket.rt:144:5
pub returns-else-starts_add : goal.returns-else-starts_add
unfolding keyed
returns-else-starts_add g c = grind (arith, common_steps)
