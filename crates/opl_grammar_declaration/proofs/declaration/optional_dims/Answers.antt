use Rattle.std.proofs.Common.{arith}
use Rattle.std.proofs.lemmas.Grind.{common_steps}
use Rattle.opl_grammar.specs.Declarations.{optional_dims}
use Rattle.opl_grammar_declaration.proofs.declaration.optional_dims.Goals as goal

-- src/declaration.rt:44:1
pub returns-in_err-dims_tree : goal.returns-in_err-dims_tree
unfolding optional_dims
returns-in_err-dims_tree g c = grind (arith, common_steps)

-- src/declaration.rt:44:1
pub returns-in_ok-dims_tree : goal.returns-in_ok-dims_tree
unfolding optional_dims
returns-in_ok-dims_tree g c = grind (arith, common_steps)

-- src/declaration.rt:44:1
pub returns-else-sees_sign : goal.returns-else-sees_sign
unfolding optional_dims
returns-else-sees_sign g c = grind (arith, common_steps)
