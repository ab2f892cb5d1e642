use Rattle.std.proofs.Common.{arith}
use Rattle.std.proofs.lemmas.Grind.{common_steps}
use Rattle.opl_grammar.specs.Declarations.{variable_decl}
use Rattle.opl_grammar_declaration.proofs.declaration.variable_decl.Goals as goal

-- src/declaration.rt:273:1
pub returns-in_err-expect_word : goal.returns-in_err-expect_word
unfolding variable_decl
returns-in_err-expect_word g c = grind (arith, common_steps)

-- src/declaration.rt:273:1
pub returns-in_err-kind : goal.returns-in_err-kind
unfolding variable_decl
returns-in_err-kind g c = grind (arith, common_steps)

-- src/declaration.rt:273:1
pub returns-in_err-named : goal.returns-in_err-named
unfolding variable_decl
returns-in_err-named g c = grind (arith, common_steps)

-- src/declaration.rt:273:1
pub returns-in_err-parts : goal.returns-in_err-parts
unfolding variable_decl
returns-in_err-parts g c = grind (arith, common_steps)

-- src/declaration.rt:273:1
pub returns-in_err-parts-2 : goal.returns-in_err-parts-2
unfolding variable_decl
returns-in_err-parts-2 g c = grind (arith, common_steps)

-- src/declaration.rt:273:1
pub returns-in_err-kind-2 : goal.returns-in_err-kind-2
unfolding variable_decl
returns-in_err-kind-2 g c = grind (arith, common_steps)

-- src/declaration.rt:273:1
pub returns : goal.returns
unfolding variable_decl
returns g c = grind (arith, common_steps)
