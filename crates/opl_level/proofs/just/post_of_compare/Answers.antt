use Rattle.std.proofs.Common.{arith}
use Rattle.std.proofs.lemmas.Grind.{common_steps}
use Rattle.opl_grammar.specs.Just.{post_of_compare}
use Rattle.opl_level.proofs.just.post_of_compare.Goals as goal

-- src/just.rt:66:1
pub returns-in-Related : goal.returns-in-Related
unfolding post_of_compare
returns-in-Related c = grind (arith, common_steps)

-- src/just.rt:66:1
pub returns-in-Member : goal.returns-in-Member
unfolding post_of_compare
returns-in-Member c = grind (arith, common_steps)
