use Rattle.std.proofs.Common.{◌≡◌, ◌≤◌, length, drop}
use Rattle.opl_expr.specs.Holds.{total_demand}
use Rattle.opl_expr.proofs.eval.total_demand.Given as goal

abbrev pub invariant-loop-left : goal.invariant-loop-left
invariant-loop-left l = (l.left ≤ length l.uses) × (l.total ≡ total_demand l.values l.fn.time (drop l.left l.uses))

abbrev pub decreases-loop-left : goal.decreases-loop-left
decreases-loop-left l = l.left
