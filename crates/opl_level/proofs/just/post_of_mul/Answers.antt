use Rattle.std.proofs.Common.{arith}
use Rattle.std.proofs.lemmas.Grind.{common_steps}
use Rattle.opl_grammar.specs.Just.{post_of_mul}
use Rattle.opl_level.proofs.just.post_of_mul.Goals as goal

-- src/just.rt:37:1
pub returns-in-Opened : goal.returns-in-Opened
unfolding post_of_mul
returns-in-Opened c = grind (arith, common_steps)
