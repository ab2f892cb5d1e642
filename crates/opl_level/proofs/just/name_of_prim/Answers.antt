use Rattle.std.proofs.Common.{arith}
use Rattle.std.proofs.lemmas.Grind.{common_steps}
use Rattle.opl_grammar.specs.Just.{name_of_prim}
use Rattle.opl_level.proofs.just.name_of_prim.Goals as goal

-- src/just.rt:137:1
pub returns-in_default : goal.returns-in_default
unfolding name_of_prim
returns-in_default c = grind (arith, common_steps)
