use Rattle.std.proofs.Common.{arith}
use Rattle.std.proofs.lemmas.Grind.{common_steps}
use Rattle.opl_grammar.specs.Model.{model}
use Rattle.opl_grammar_model.proofs.model.model.Goals as goal

-- src/model.rt:40:1
pub returns-in_err-decls : goal.returns-in_err-decls
unfolding model
returns-in_err-decls c = grind (arith, common_steps)

-- src/model.rt:40:1
pub returns-in_err-parts : goal.returns-in_err-parts
unfolding model
returns-in_err-parts c = grind (arith, common_steps)

-- src/model.rt:40:1
pub returns-in_err-decls-2 : goal.returns-in_err-decls-2
unfolding model
returns-in_err-decls-2 c = grind (arith, common_steps)

-- src/model.rt:40:1
pub returns : goal.returns
unfolding model
returns c = grind (arith, common_steps)
