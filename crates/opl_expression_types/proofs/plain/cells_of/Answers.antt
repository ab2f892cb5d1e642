use Rattle.std.proofs.Common.{arith}
use Rattle.opl_expression_types.proofs.ArrayCells.{adds}
use Rattle.opl_expression_types.proofs.plain.cells_of.Goals as goal

pub returns : goal.returns
returns c = grind (arith, adds)
