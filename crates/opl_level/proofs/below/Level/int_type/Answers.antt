use Rattle.std.proofs.Common.{arith}
use Rattle.std.proofs.lemmas.Grind.{common_steps}
use Rattle.opl_grammar.specs.Rules.{int_type}
use Rattle.opl_level.proofs.below.Level.int_type.Goals as goal

-- src/bracket.rt:176:9
pub returns-in_err-expect_word : goal.returns-in_err-expect_word
unfolding int_type
returns-in_err-expect_word g c = grind (arith, common_steps)

-- src/bracket.rt:170:5
pub returns : goal.returns
unfolding int_type
returns g c = grind (arith, common_steps)
