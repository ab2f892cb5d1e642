use Rattle.std.proofs.Common.{arith}
use Rattle.std.proofs.lemmas.Grind.{common_steps}
use Rattle.opl_grammar.specs.Declarations.{variable_type}
use Rattle.opl_grammar_declaration.proofs.declaration.variable_type.Goals as goal

-- src/declaration.rt:225:1
pub returns-in_err-name : goal.returns-in_err-name
unfolding variable_type
returns-in_err-name g c = grind (arith, common_steps)

-- src/declaration.rt:225:1
pub returns-then-sees_word : goal.returns-then-sees_word
unfolding variable_type
returns-then-sees_word g c = grind (arith, common_steps)

-- src/declaration.rt:225:1
pub returns-in_ok-name : goal.returns-in_ok-name
unfolding variable_type
returns-in_ok-name g c = grind (arith, common_steps)
