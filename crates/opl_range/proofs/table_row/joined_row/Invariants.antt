use Rattle.std.proofs.Common.{◌≡◌, ◌≤◌, map, length}
use Rattle.opl_expr.specs.Range.{may_be}
use Rattle.opl_range.specs.Between.{term_of, linear_of}
use Rattle.opl_range.proofs.Tables.{hull_from}
use Rattle.opl_range.proofs.table_row.joined_row.Given as goal

abbrev pub invariant-loop-left : goal.invariant-loop-left
invariant-loop-left g l =
    (l.left ≤ length l.dim) × (l.joined ≡ hull_from (g.V.View.family l.view) (map (may_be (g.V.View.family l.view) (linear_of (g.V.View.family l.view) (term_of l.core l.part))) l.dim) l.cells l.fn.found l.left)

abbrev pub decreases-loop-left : goal.decreases-loop-left
decreases-loop-left g l = l.left
