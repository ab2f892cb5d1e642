use Rattle.std.proofs.Common.{arith}
use Rattle.opl_expression_types.proofs.Patterns.{names_unknown}
use Rattle.opl_type_rules.proofs.Forms.{group_forms}
use Rattle.opl_expression_types.proofs.pattern.unknown_group.Goals as goal

-- src/pattern.rt:298:5
pub returns-in_err-unknown_pattern : goal.returns-in_err-unknown_pattern
returns-in_err-unknown_pattern c = grind (arith, names_unknown, group_forms)

-- src/pattern.rt:289:1
pub returns : goal.returns
returns c = grind (arith, names_unknown, group_forms)
