use Rattle.std.proofs.Common.{arith}
use Rattle.opl_type_rules.proofs.Forms.{sign_forms}
use Rattle.opl_expression_types.proofs.plain.cells_of_sign.Goals as goal

pub returns-in-Postfix : goal.returns-in-Postfix
returns-in-Postfix c = grind (arith, sign_forms)

pub returns-in-Negative : goal.returns-in-Negative
returns-in-Negative c = grind (arith, sign_forms)
