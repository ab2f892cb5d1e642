use Rattle.std.proofs.Common.{arith}
use Rattle.std.proofs.lemmas.Grind.{common_steps}
use Rattle.opl_grammar.specs.Declarations.{activity_decl}
use Rattle.opl_grammar_declaration.proofs.declaration.activity_decl.Goals as goal

-- src/declaration.rt:298:1
pub returns-in_err-expect_word : goal.returns-in_err-expect_word
unfolding activity_decl
returns-in_err-expect_word g c = grind (arith, common_steps)

-- src/declaration.rt:298:1
pub returns-in_err-name : goal.returns-in_err-name
unfolding activity_decl
returns-in_err-name g c = grind (arith, common_steps)

-- src/declaration.rt:298:1
pub returns-in_err-dims : goal.returns-in_err-dims
unfolding activity_decl
returns-in_err-dims g c = grind (arith, common_steps)

-- src/declaration.rt:298:1
pub returns-in_err-dims-2 : goal.returns-in_err-dims-2
unfolding activity_decl
returns-in_err-dims-2 g c = grind (arith, common_steps)

-- src/declaration.rt:298:1
pub returns-in_err-parts : goal.returns-in_err-parts
unfolding activity_decl
returns-in_err-parts g c = grind (arith, common_steps)

-- src/declaration.rt:298:1
pub returns-in_err-parts-2 : goal.returns-in_err-parts-2
unfolding activity_decl
returns-in_err-parts-2 g c = grind (arith, common_steps)

-- src/declaration.rt:298:1
pub returns-in_err-dims-3 : goal.returns-in_err-dims-3
unfolding activity_decl
returns-in_err-dims-3 g c = grind (arith, common_steps)

-- src/declaration.rt:298:1
pub returns : goal.returns
unfolding activity_decl
returns g c = grind (arith, common_steps)
