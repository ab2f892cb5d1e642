use Rattle.std.proofs.Common.{arith}
use Rattle.std.proofs.lemmas.Grind.{common_steps}
use Rattle.opl_grammar.specs.Declarations.{int_variable}
use Rattle.opl_grammar_declaration.proofs.declaration.int_variable.Goals as goal

-- src/declaration.rt:211:1
pub returns-in_err-expect_word : goal.returns-in_err-expect_word
unfolding int_variable
returns-in_err-expect_word g c = grind (arith, common_steps)

-- src/declaration.rt:211:1
pub returns : goal.returns
unfolding int_variable
returns g c = grind (arith, common_steps)
