use Rattle.std.proofs.Common.{arith}
use Rattle.std.proofs.lemmas.Grind.{common_steps}
use Rattle.opl_grammar.specs.Declarations.{schedule_decl}
use Rattle.opl_grammar_declaration.proofs.declaration.schedule_decl.Goals as goal

-- src/declaration.rt:365:1
pub returns-in_err-end : goal.returns-in_err-end
unfolding schedule_decl
returns-in_err-end g c = grind (arith, common_steps)

-- src/declaration.rt:365:1
pub returns-in_err-expect_sign : goal.returns-in_err-expect_sign
unfolding schedule_decl
returns-in_err-expect_sign g c = grind (arith, common_steps)

-- src/declaration.rt:365:1
pub returns-in_err-value : goal.returns-in_err-value
unfolding schedule_decl
returns-in_err-value g c = grind (arith, common_steps)

-- src/declaration.rt:365:1
pub returns-in_err-value-2 : goal.returns-in_err-value-2
unfolding schedule_decl
returns-in_err-value-2 g c = grind (arith, common_steps)

-- src/declaration.rt:365:1
pub returns : goal.returns
unfolding schedule_decl
returns g c = grind (arith, common_steps)
