use Rattle.std.proofs.Common.{arith}
use Rattle.std.proofs.lemmas.Grind.{common_steps}
use Rattle.opl_grammar.specs.Rules.{listed}
use Rattle.opl_level.proofs.below.Level.listed.Goals as goal

-- src/bracket.rt:54:13
pub returns-then-not-starts_add : goal.returns-then-not-starts_add
unfolding listed
returns-then-not-starts_add g c = grind (arith, common_steps)

-- src/bracket.rt:56:29
pub returns-in_err-first : goal.returns-in_err-first
unfolding listed
returns-in_err-first g c = grind (arith, common_steps)

-- src/bracket.rt:57:12
pub returns-in_err-with_first : goal.returns-in_err-with_first
unfolding listed
returns-in_err-with_first g c = grind (arith, common_steps)

-- src/bracket.rt:48:5
pub returns : goal.returns
unfolding listed
returns g c = grind (arith, common_steps)
