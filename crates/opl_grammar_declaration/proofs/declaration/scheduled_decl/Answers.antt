use Rattle.std.proofs.Common.{arith}
use Rattle.std.proofs.lemmas.Grind.{common_steps}
use Rattle.opl_grammar.specs.Declarations.{scheduled_decl}
use Rattle.opl_grammar_declaration.proofs.declaration.scheduled_decl.Goals as goal

-- src/declaration.rt:386:1
pub returns-in_err-activity_decl : goal.returns-in_err-activity_decl
unfolding scheduled_decl
returns-in_err-activity_decl g c = grind (arith, common_steps)

-- src/declaration.rt:386:1
pub returns-in_err-unary_decl : goal.returns-in_err-unary_decl
unfolding scheduled_decl
returns-in_err-unary_decl g c = grind (arith, common_steps)

-- src/declaration.rt:386:1
pub returns-in_err-discrete_decl : goal.returns-in_err-discrete_decl
unfolding scheduled_decl
returns-in_err-discrete_decl g c = grind (arith, common_steps)

-- src/declaration.rt:386:1
pub returns-in_err-schedule_decl : goal.returns-in_err-schedule_decl
unfolding scheduled_decl
returns-in_err-schedule_decl g c = grind (arith, common_steps)

-- src/declaration.rt:386:1
pub returns-in_ok-activity_decl : goal.returns-in_ok-activity_decl
unfolding scheduled_decl
returns-in_ok-activity_decl g c = grind (arith, common_steps)

-- src/declaration.rt:386:1
pub returns-in_ok-unary_decl : goal.returns-in_ok-unary_decl
unfolding scheduled_decl
returns-in_ok-unary_decl g c = grind (arith, common_steps)

-- src/declaration.rt:386:1
pub returns-in_ok-discrete_decl : goal.returns-in_ok-discrete_decl
unfolding scheduled_decl
returns-in_ok-discrete_decl g c = grind (arith, common_steps)

-- src/declaration.rt:386:1
pub returns-in_ok-schedule_decl : goal.returns-in_ok-schedule_decl
unfolding scheduled_decl
returns-in_ok-schedule_decl g c = grind (arith, common_steps)
