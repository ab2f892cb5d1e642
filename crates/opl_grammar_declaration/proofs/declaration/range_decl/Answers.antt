use Rattle.std.proofs.Common.{arith}
use Rattle.std.proofs.lemmas.Grind.{common_steps}
use Rattle.opl_grammar.specs.Declarations.{range_decl}
use Rattle.opl_grammar_declaration.proofs.declaration.range_decl.Goals as goal

-- src/declaration.rt:106:1
pub returns-in_err-expect_word : goal.returns-in_err-expect_word
unfolding range_decl
returns-in_err-expect_word g c = grind (arith, common_steps)

-- src/declaration.rt:106:1
pub returns-in_err-name : goal.returns-in_err-name
unfolding range_decl
returns-in_err-name g c = grind (arith, common_steps)

-- src/declaration.rt:106:1
pub returns-in_err-low : goal.returns-in_err-low
unfolding range_decl
returns-in_err-low g c = grind (arith, common_steps)

-- src/declaration.rt:106:1
pub returns-in_err-ends : goal.returns-in_err-ends
unfolding range_decl
returns-in_err-ends g c = grind (arith, common_steps)

-- src/declaration.rt:106:1
pub returns-in_err-low-2 : goal.returns-in_err-low-2
unfolding range_decl
returns-in_err-low-2 g c = grind (arith, common_steps)

-- src/declaration.rt:106:1
pub returns : goal.returns
unfolding range_decl
returns g c = grind (arith, common_steps)
