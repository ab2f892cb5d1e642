use Rattle.std.proofs.Common.{◌≡◌, ◌≤◌, map, length, drop}
use Rattle.std.specs.Prelude.{Some}
use Rattle.opl_expr.specs.Forms.{Term, terms_of, demand_at}
use Rattle.opl_expr.specs.Range.{rest}
use Rattle.opl_range.proofs.uses.demands.Given as goal

abbrev pub invariant-loop-left : goal.invariant-loop-left
invariant-loop-left g l = (l.left ≤ length l.uses) × (Some l.total ≡ rest (g.V.View.family l.view) (Term.sum (terms_of (map (demand_at l.fn.time) (drop l.left l.uses)))))

abbrev pub decreases-loop-left : goal.decreases-loop-left
decreases-loop-left g l = l.left
