use Rattle.std.proofs.Common.{arith}
use Rattle.std.proofs.lemmas.Grind.{common_steps}
use Rattle.opl_grammar.specs.Rules.{described}
use Rattle.opl_level.proofs.below.Level.described.Goals as goal

-- src/bracket.rt:70:27
pub returns-in_err-first : goal.returns-in_err-first
unfolding described
returns-in_err-first g c = grind (arith, common_steps)

-- src/bracket.rt:71:31
pub returns-in_err-first-2 : goal.returns-in_err-first-2
unfolding described
returns-in_err-first-2 g c = grind (arith, common_steps)

-- src/bracket.rt:61:5
pub returns : goal.returns
unfolding described
returns g c = grind (arith, common_steps)
