use Rattle.std.proofs.Common.{arith}
use Rattle.std.proofs.lemmas.Grind.{common_steps}
use Rattle.opl_grammar.specs.Declarations.{unary_decl}
use Rattle.opl_grammar_declaration.proofs.declaration.unary_decl.Goals as goal

-- src/declaration.rt:325:1
pub returns-in_err-expect_word : goal.returns-in_err-expect_word
unfolding unary_decl
returns-in_err-expect_word g c = grind (arith, common_steps)

-- src/declaration.rt:325:1
pub returns-in_err-name : goal.returns-in_err-name
unfolding unary_decl
returns-in_err-name g c = grind (arith, common_steps)

-- src/declaration.rt:325:1
pub returns-in_err-dims : goal.returns-in_err-dims
unfolding unary_decl
returns-in_err-dims g c = grind (arith, common_steps)

-- src/declaration.rt:325:1
pub returns-in_err-dims-2 : goal.returns-in_err-dims-2
unfolding unary_decl
returns-in_err-dims-2 g c = grind (arith, common_steps)

-- src/declaration.rt:325:1
pub returns : goal.returns
unfolding unary_decl
returns g c = grind (arith, common_steps)
