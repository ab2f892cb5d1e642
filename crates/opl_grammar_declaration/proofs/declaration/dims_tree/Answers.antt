use Rattle.std.proofs.Common.{arith}
use Rattle.std.proofs.lemmas.Grind.{common_steps}
use Rattle.opl_grammar.specs.Declarations.{dims_tree}
use Rattle.opl_grammar_declaration.proofs.declaration.dims_tree.Goals as goal

-- src/declaration.rt:31:1
pub returns-in_err-expect_sign : goal.returns-in_err-expect_sign
unfolding dims_tree
returns-in_err-expect_sign g c = grind (arith, common_steps)

-- src/declaration.rt:31:1
pub returns-in_err-dims : goal.returns-in_err-dims
unfolding dims_tree
returns-in_err-dims g c = grind (arith, common_steps)

-- src/declaration.rt:31:1
pub returns-in_err-first : goal.returns-in_err-first
unfolding dims_tree
returns-in_err-first g c = grind (arith, common_steps)

-- src/declaration.rt:31:1
pub returns : goal.returns
unfolding dims_tree
returns g c = grind (arith, common_steps)
