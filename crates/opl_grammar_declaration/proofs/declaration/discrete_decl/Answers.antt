use Rattle.std.proofs.Common.{arith}
use Rattle.std.proofs.lemmas.Grind.{common_steps}
use Rattle.opl_grammar.specs.Declarations.{discrete_decl}
use Rattle.opl_grammar_declaration.proofs.declaration.discrete_decl.Goals as goal

-- src/declaration.rt:339:1
pub returns-in_err-expect_word : goal.returns-in_err-expect_word
unfolding discrete_decl
returns-in_err-expect_word g c = grind (arith, common_steps)

-- src/declaration.rt:339:1
pub returns-in_err-name : goal.returns-in_err-name
unfolding discrete_decl
returns-in_err-name g c = grind (arith, common_steps)

-- src/declaration.rt:339:1
pub returns-in_err-dims : goal.returns-in_err-dims
unfolding discrete_decl
returns-in_err-dims g c = grind (arith, common_steps)

-- src/declaration.rt:339:1
pub returns-in_err-dims-2 : goal.returns-in_err-dims-2
unfolding discrete_decl
returns-in_err-dims-2 g c = grind (arith, common_steps)

-- src/declaration.rt:339:1
pub returns-in_err-parts : goal.returns-in_err-parts
unfolding discrete_decl
returns-in_err-parts g c = grind (arith, common_steps)

-- src/declaration.rt:339:1
pub returns-in_err-parts-2 : goal.returns-in_err-parts-2
unfolding discrete_decl
returns-in_err-parts-2 g c = grind (arith, common_steps)

-- src/declaration.rt:339:1
pub returns-in_err-dims-3 : goal.returns-in_err-dims-3
unfolding discrete_decl
returns-in_err-dims-3 g c = grind (arith, common_steps)

-- src/declaration.rt:339:1
pub returns : goal.returns
unfolding discrete_decl
returns g c = grind (arith, common_steps)
