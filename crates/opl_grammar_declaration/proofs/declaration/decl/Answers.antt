use Rattle.std.proofs.Common.{arith}
use Rattle.std.proofs.lemmas.Grind.{common_steps}
use Rattle.opl_grammar.specs.Declarations.{decl}
use Rattle.opl_grammar_declaration.proofs.declaration.decl.Goals as goal

-- src/declaration.rt:425:1
pub returns-in_err-data_decl : goal.returns-in_err-data_decl
unfolding decl
returns-in_err-data_decl g c = grind (arith, common_steps)

-- src/declaration.rt:425:1
pub returns-in_ok-data_decl : goal.returns-in_ok-data_decl
unfolding decl
returns-in_ok-data_decl g c = grind (arith, common_steps)

-- src/declaration.rt:425:1
pub returns-else-starts_type : goal.returns-else-starts_type
unfolding decl
returns-else-starts_type g c = grind (arith, common_steps)
