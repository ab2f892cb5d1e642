use Rattle.std.proofs.Common.{arith}
use Rattle.std.proofs.lemmas.Grind.{common_steps}
use Rattle.opl_grammar.specs.Rules.{listed_behind}
use Rattle.opl_level.proofs.below.Level.listed_behind.Goals as goal

-- src/bracket.rt:85:29
pub returns-in_err-first : goal.returns-in_err-first
unfolding listed_behind
returns-in_err-first g c = grind (arith, common_steps)

-- src/bracket.rt:86:27
pub returns-in_err-with_first : goal.returns-in_err-with_first
unfolding listed_behind
returns-in_err-with_first g c = grind (arith, common_steps)

-- src/bracket.rt:76:5
pub returns : goal.returns
unfolding listed_behind
returns g c = grind (arith, common_steps)
