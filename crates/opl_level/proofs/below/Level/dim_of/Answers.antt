use Rattle.std.proofs.Common.{arith}
use Rattle.std.proofs.lemmas.Grind.{common_steps}
use Rattle.opl_grammar.specs.Rules.{dim_of}
use Rattle.opl_level.proofs.below.Level.dim_of.Goals as goal

-- src/bracket.rt:246:13
pub returns-then-not-sees_word : goal.returns-then-not-sees_word
unfolding dim_of
returns-then-not-sees_word g c = grind (arith, common_steps)

-- src/bracket.rt:253:13
pub returns-in_default : goal.returns-in_default
unfolding dim_of
returns-in_default g c = grind (arith, common_steps)

-- src/bracket.rt:255:9
pub returns-in_err-name : goal.returns-in_err-name
unfolding dim_of
returns-in_err-name g c = grind (arith, common_steps)

-- src/bracket.rt:256:19
pub returns-in_err-name-2 : goal.returns-in_err-name-2
unfolding dim_of
returns-in_err-name-2 g c = grind (arith, common_steps)

-- src/bracket.rt:235:5
pub returns : goal.returns
unfolding dim_of
returns g c = grind (arith, common_steps)
