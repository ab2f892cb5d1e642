use Rattle.std.proofs.Common.{arith}
use Rattle.opl_type_rules.proofs.Sorts.{sorts}
use Rattle.opl_expression_types.proofs.expression.or_anything.Goals as goal

-- src/expression.rt:714:20
pub returns-in_err-new-in-None : goal.returns-in_err-new-in-None
returns-in_err-new-in-None c = grind (arith, sorts)

-- src/expression.rt:708:1
pub returns-in-Some : goal.returns-in-Some
returns-in-Some c = grind (arith, sorts)

-- src/expression.rt:708:1
pub returns-in_ok-new-in-None : goal.returns-in_ok-new-in-None
returns-in_ok-new-in-None c = grind (arith, sorts)
