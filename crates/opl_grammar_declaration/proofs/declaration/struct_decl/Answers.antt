use Rattle.std.proofs.Common.{arith}
use Rattle.std.proofs.lemmas.Grind.{common_steps}
use Rattle.opl_grammar.specs.Declarations.{struct_decl}
use Rattle.opl_grammar_declaration.proofs.declaration.struct_decl.Goals as goal

-- src/declaration.rt:186:1
pub returns-in_err-expect_word : goal.returns-in_err-expect_word
unfolding struct_decl
returns-in_err-expect_word g c = grind (arith, common_steps)

-- src/declaration.rt:186:1
pub returns-in_err-name : goal.returns-in_err-name
unfolding struct_decl
returns-in_err-name g c = grind (arith, common_steps)

-- src/declaration.rt:186:1
pub returns-in_err-expect_sign : goal.returns-in_err-expect_sign
unfolding struct_decl
returns-in_err-expect_sign g c = grind (arith, common_steps)

-- src/declaration.rt:186:1
pub returns-in_err-fields : goal.returns-in_err-fields
unfolding struct_decl
returns-in_err-fields g c = grind (arith, common_steps)

-- src/declaration.rt:186:1
pub returns-in_err-fields-2 : goal.returns-in_err-fields-2
unfolding struct_decl
returns-in_err-fields-2 g c = grind (arith, common_steps)

-- src/declaration.rt:186:1
pub returns-in_err-first : goal.returns-in_err-first
unfolding struct_decl
returns-in_err-first g c = grind (arith, common_steps)

-- src/declaration.rt:186:1
pub returns : goal.returns
unfolding struct_decl
returns g c = grind (arith, common_steps)
