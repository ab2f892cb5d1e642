use Rattle.std.proofs.Common.{arith}
use Rattle.std.proofs.lemmas.Grind.{common_steps}
use Rattle.opl_grammar.specs.Declarations.{enum_decl}
use Rattle.opl_grammar_declaration.proofs.declaration.enum_decl.Goals as goal

-- src/declaration.rt:172:1
pub returns-in_err-expect_word : goal.returns-in_err-expect_word
unfolding enum_decl
returns-in_err-expect_word g c = grind (arith, common_steps)

-- src/declaration.rt:172:1
pub returns-in_err-name : goal.returns-in_err-name
unfolding enum_decl
returns-in_err-name g c = grind (arith, common_steps)

-- src/declaration.rt:172:1
pub returns-in_err-names : goal.returns-in_err-names
unfolding enum_decl
returns-in_err-names g c = grind (arith, common_steps)

-- src/declaration.rt:172:1
pub returns-in_err-names-2 : goal.returns-in_err-names-2
unfolding enum_decl
returns-in_err-names-2 g c = grind (arith, common_steps)

-- src/declaration.rt:172:1
pub returns : goal.returns
unfolding enum_decl
returns g c = grind (arith, common_steps)
