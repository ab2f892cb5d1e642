use Rattle.std.proofs.Common.{◌≡◌, ◌≤◌, length, drop, map, true}
use Rattle.opl_expr.specs.Solutions.{is_among}
use Rattle.opl_trace.specs.Between.{values_between}
use Rattle.opl_sound.proofs.views.is_assignment.Given as goal

abbrev pub invariant-loop-left : goal.invariant-loop-left
invariant-loop-left l = (l.left ≤ length l.values) × (is_among (drop l.left l.values) (map values_between (drop l.left l.core.sets)) ≡ true)

abbrev pub decreases-loop-left : goal.decreases-loop-left
decreases-loop-left l = l.left
