use Rattle.opl_grounding.proofs.Cells.{numbered-cells}
use Rattle.opl_grounding.proofs.tables.cells_of.Goals as goal

pub returns-in-Numbered : goal.returns-in-Numbered
returns-in-Numbered c = numbered-cells c.numbered_cells.result c.args.elements c.in-Numbered.field-0 c.in-Numbered.first c.in-Numbered.count c.in-Numbered.is c.numbered_cells.ensures
