use Rattle.std.proofs.Common.{arith}
use Rattle.std.proofs.lemmas.Grind.{common_steps}
use Rattle.opl_grammar.specs.Just.{post_of_imp}
use Rattle.opl_level.proofs.just.post_of_imp.Goals as goal

-- src/just.rt:113:1
pub returns-in-None : goal.returns-in-None
unfolding post_of_imp
returns-in-None c = grind (arith, common_steps)

-- src/just.rt:113:1
pub returns-in-Some : goal.returns-in-Some
unfolding post_of_imp
returns-in-Some c = grind (arith, common_steps)
