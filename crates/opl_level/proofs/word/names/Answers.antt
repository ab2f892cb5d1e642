use Rattle.std.proofs.Common.{arith}
use Rattle.std.proofs.lemmas.Grind.{common_steps}
use Rattle.opl_grammar.specs.Rules.{names}
use Rattle.opl_level.proofs.word.names.Goals as goal

-- src/word.rt:58:17
pub returns-in_err-first : goal.returns-in_err-first
unfolding names
returns-in_err-first c = grind (arith, common_steps)

-- src/word.rt:51:1
pub returns : goal.returns
unfolding names
returns c = grind (arith, common_steps)
