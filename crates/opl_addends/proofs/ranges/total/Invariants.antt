use Rattle.std.proofs.Common.{◌≡◌, ◌≤◌, drop, length}
use Rattle.opl_addends.specs.Addends.{plains, total}
use Rattle.opl_addends.proofs.ranges.total.Given as goal

abbrev pub invariant-loop-left : goal.invariant-loop-left
invariant-loop-left g l = (l.left ≤ length l.addends) × (l.found ≡ total (g.V.View.family l.view) (plains l.core (drop l.left l.addends)))

abbrev pub decreases-loop-left : goal.decreases-loop-left
decreases-loop-left g l = l.left
