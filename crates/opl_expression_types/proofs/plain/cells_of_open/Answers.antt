use Rattle.std.proofs.Common.{arith}
use Rattle.opl_type_rules.proofs.Forms.{open_forms}
use Rattle.opl_expression_types.proofs.plain.cells_of_open.Goals as goal

-- src/plain.rt:71:1
pub returns : goal.returns
returns c = grind (arith, open_forms)
