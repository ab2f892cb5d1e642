use Rattle.std.proofs.Common.{arith}
use Rattle.std.proofs.lemmas.Grind.{common_steps}
use Rattle.opl_grammar.specs.Just.{post_of}
use Rattle.opl_level.proofs.just.into_post.Goals as goal

-- src/just.rt:125:1
pub returns-then-is_empty : goal.returns-then-is_empty
unfolding post_of
returns-then-is_empty c = grind (arith, common_steps)

-- src/just.rt:125:1
pub returns-else-is_empty : goal.returns-else-is_empty
unfolding post_of
returns-else-is_empty c = grind (arith, common_steps)
