use Rattle.std.proofs.Common.{arith}
use Rattle.std.proofs.lemmas.Grind.{common_steps}
use Rattle.opl_grammar.specs.Just.{post_of_neg}
use Rattle.opl_level.proofs.just.post_of_neg.Goals as goal

-- src/just.rt:78:1
pub returns-in-Not : goal.returns-in-Not
unfolding post_of_neg
returns-in-Not c = grind (arith, common_steps)
