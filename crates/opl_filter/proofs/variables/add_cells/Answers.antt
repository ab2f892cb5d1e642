use Rattle.std.proofs.Common.{pos}
use Rattle.opl_expr.specs.declared.tables.Cell.TheVariants as cell
use Rattle.opl_filter.specs.Mentions.{cell_mentions, cells_mention}
use Rattle.opl_filter.proofs.Adding.{any_cells, first_none, first_at, first_all}
use Rattle.opl_filter.proofs.variables.add_cells.Goals as goal

pub loop-cell-init : goal.loop-cell-init
loop-cell-init c = first_none cell_mentions c.args.cells.now c.args.found.now

pub loop-cell-preserved : goal.loop-cell-preserved
loop-cell-preserved c =
    first_at cell_mentions c.args.cells.now c.loop-cell.cell-index (cell.Const (pos 0)) c.args.found.now c.loop-cell.found c.add_cell.new.found c.loop-cell-test.true c.loop-cell.invariant c.in_ok-add_cell.ensures

pub returns : goal.returns
returns c = first_all cell_mentions (cells_mention c.args.cells.now) c.args.cells.now c.loop-cell.cell-index c.args.found.now c.loop-cell.found (any_cells c.args.cells.now) c.loop-cell-test.false c.loop-cell.invariant
