use Rattle.std.proofs.Common.{arith}
use Rattle.std.proofs.lemmas.Grind.{common_steps}
use Rattle.opl_grammar.specs.Declarations.{word_decl}
use Rattle.opl_grammar_declaration.proofs.declaration.word_decl.Goals as goal

-- src/declaration.rt:406:1
pub returns-in_err-range_decl : goal.returns-in_err-range_decl
unfolding word_decl
returns-in_err-range_decl g c = grind (arith, common_steps)

-- src/declaration.rt:406:1
pub returns-in_err-enum_decl : goal.returns-in_err-enum_decl
unfolding word_decl
returns-in_err-enum_decl g c = grind (arith, common_steps)

-- src/declaration.rt:406:1
pub returns-in_err-struct_decl : goal.returns-in_err-struct_decl
unfolding word_decl
returns-in_err-struct_decl g c = grind (arith, common_steps)

-- src/declaration.rt:406:1
pub returns-in_err-variable_decl : goal.returns-in_err-variable_decl
unfolding word_decl
returns-in_err-variable_decl g c = grind (arith, common_steps)

-- src/declaration.rt:406:1
pub returns-in_ok-range_decl : goal.returns-in_ok-range_decl
unfolding word_decl
returns-in_ok-range_decl g c = grind (arith, common_steps)

-- src/declaration.rt:406:1
pub returns-in_ok-enum_decl : goal.returns-in_ok-enum_decl
unfolding word_decl
returns-in_ok-enum_decl g c = grind (arith, common_steps)

-- src/declaration.rt:406:1
pub returns-in_ok-struct_decl : goal.returns-in_ok-struct_decl
unfolding word_decl
returns-in_ok-struct_decl g c = grind (arith, common_steps)

-- src/declaration.rt:406:1
pub returns-in_ok-variable_decl : goal.returns-in_ok-variable_decl
unfolding word_decl
returns-in_ok-variable_decl g c = grind (arith, common_steps)

-- src/declaration.rt:406:1
pub returns-else-sees_word-4 : goal.returns-else-sees_word-4
unfolding word_decl
returns-else-sees_word-4 g c = grind (arith, common_steps)
