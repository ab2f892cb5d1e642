use Rattle.std.proofs.Common.{arith}
use Rattle.std.proofs.lemmas.Grind.{common_steps}
use Rattle.opl_grammar.specs.Rules.{field_name}
use Rattle.opl_level.proofs.word.field_name.Goals as goal

-- src/word.rt:30:16
pub returns-in_err-text : goal.returns-in_err-text
unfolding field_name
returns-in_err-text c = grind (arith, common_steps)

-- src/word.rt:25:1
pub returns : goal.returns
unfolding field_name
returns c = grind (arith, common_steps)
