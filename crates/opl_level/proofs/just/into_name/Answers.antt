use Rattle.std.proofs.Common.{arith}
use Rattle.std.proofs.lemmas.Grind.{common_steps}
use Rattle.opl_grammar.specs.Just.{name_of}
use Rattle.opl_level.proofs.just.into_name.Goals as goal

-- src/just.rt:170:1
pub returns-in-Some : goal.returns-in-Some
unfolding name_of
returns-in-Some c = grind (arith, common_steps)

-- src/just.rt:170:1
pub returns-in-None : goal.returns-in-None
unfolding name_of
returns-in-None c = grind (arith, common_steps)
