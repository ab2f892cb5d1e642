use Rattle.std.proofs.Common.{arith}
use Rattle.std.proofs.lemmas.Grind.{common_steps}
use Rattle.opl_grammar.specs.Just.{post_of_sign}
use Rattle.opl_level.proofs.just.post_of_sign.Goals as goal

-- src/just.rt:26:1
pub returns-in-Negative : goal.returns-in-Negative
unfolding post_of_sign
returns-in-Negative c = grind (arith, common_steps)
