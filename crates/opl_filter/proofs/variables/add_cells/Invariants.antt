use Rattle.opl_filter.specs.Mentions.{cell_mentions}
use Rattle.opl_filter.proofs.Adding.{AddsFirst}
use Rattle.opl_filter.proofs.variables.add_cells.Given as goal

abbrev pub invariant-loop-cell : goal.invariant-loop-cell
invariant-loop-cell l = AddsFirst cell_mentions l.cells l.cell-index l.initial.found l.found
