use Rattle.std.proofs.Common.{arith}
use Rattle.opl_type_rules.proofs.Sorts.{sorts}
use Rattle.opl_expression_types.proofs.Patterns.{names_added}
use Rattle.opl_expression_types.proofs.pattern.unknown_name.Goals as goal

-- src/pattern.rt:235:14
pub returns-in_err-ty : goal.returns-in_err-ty
returns-in_err-ty c = grind (arith, sorts, names_added)

-- src/pattern.rt:226:1
pub returns : goal.returns
returns c = grind (arith, sorts, names_added)
