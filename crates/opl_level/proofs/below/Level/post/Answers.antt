use Rattle.std.proofs.Common.{arith}
use Rattle.std.proofs.lemmas.Grind.{common_steps}
use Rattle.opl_grammar.specs.Rules.{post}
use Rattle.opl_level.proofs.below.Level.post.Goals as goal

-- src/prim.rt:255:20
pub returns-in_err-prim : goal.returns-in_err-prim
unfolding post
returns-in_err-prim g c = grind (arith, common_steps)

-- src/prim.rt:256:32
pub returns-in_err-prim-2 : goal.returns-in_err-prim-2
unfolding post
returns-in_err-prim-2 g c = grind (arith, common_steps)

-- src/prim.rt:249:5
pub returns : goal.returns
unfolding post
returns g c = grind (arith, common_steps)
