use Rattle.std.proofs.Common.{arith}
use Rattle.opl_bind.proofs.WrittenLayers.{written_with_cells}
use Rattle.opl_bind.proofs.written.cells_by_form.Goals as goal

pub returns : goal.returns
returns c = grind (arith, written_with_cells)

pub returns-then-has_cells : goal.returns-then-has_cells
returns-then-has_cells c = grind (arith, written_with_cells)

pub returns-then-is_some : goal.returns-then-is_some
returns-then-is_some c = grind (arith, written_with_cells)
