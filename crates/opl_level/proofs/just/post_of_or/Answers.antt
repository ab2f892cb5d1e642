use Rattle.std.proofs.Common.{arith}
use Rattle.std.proofs.lemmas.Grind.{common_steps}
use Rattle.opl_grammar.specs.Just.{post_of_or}
use Rattle.opl_level.proofs.just.post_of_or.Goals as goal

-- src/just.rt:101:1
pub returns-then-is_empty : goal.returns-then-is_empty
unfolding post_of_or
returns-then-is_empty c = grind (arith, common_steps)

-- src/just.rt:101:1
pub returns-else-is_empty : goal.returns-else-is_empty
unfolding post_of_or
returns-else-is_empty c = grind (arith, common_steps)
