use Rattle.std.proofs.Common.{arith}
use Rattle.std.proofs.lemmas.Grind.{common_steps}
use Rattle.opl_grammar.specs.Rules.{name}
use Rattle.opl_level.proofs.word.name.Goals as goal

-- src/word.rt:20:16
pub returns-in_err-text : goal.returns-in_err-text
unfolding name
returns-in_err-text c = grind (arith, common_steps)

-- src/word.rt:15:1
pub returns : goal.returns
unfolding name
returns c = grind (arith, common_steps)
