use Rattle.std.proofs.Common.{arith}
use Rattle.std.proofs.lemmas.Grind.{common_steps}
use Rattle.opl_grammar.specs.Just.{name_of_post}
use Rattle.opl_level.proofs.just.name_of_post.Goals as goal

-- src/just.rt:148:1
pub returns-then-is_empty : goal.returns-then-is_empty
unfolding name_of_post
returns-then-is_empty c = grind (arith, common_steps)

-- src/just.rt:148:1
pub returns-else-is_empty : goal.returns-else-is_empty
unfolding name_of_post
returns-else-is_empty c = grind (arith, common_steps)
