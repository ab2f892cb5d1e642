use Rattle.std.proofs.Common.{arith}
use Rattle.std.proofs.lemmas.Grind.{common_steps}
use Rattle.opl_grammar.specs.Declarations.{initial}
use Rattle.opl_grammar_declaration.proofs.declaration.initial.Goals as goal

-- src/declaration.rt:71:1
pub returns-in_err-add : goal.returns-in_err-add
unfolding initial
returns-in_err-add g c = grind (arith, common_steps)

-- src/declaration.rt:71:1
pub returns-then-sees_sign : goal.returns-then-sees_sign
unfolding initial
returns-then-sees_sign g c = grind (arith, common_steps)

-- src/declaration.rt:71:1
pub returns-in_ok-add : goal.returns-in_ok-add
unfolding initial
returns-in_ok-add g c = grind (arith, common_steps)
