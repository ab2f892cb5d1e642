use Rattle.std.proofs.Common.{◌≡◌, ◌≤◌, drop, length}
use Rattle.opl_addends.specs.Addends.{plains, picked, total}
use Rattle.opl_addends.proofs.ranges.total_at.Given as goal

abbrev pub invariant-loop-left : goal.invariant-loop-left
invariant-loop-left g l = (l.left ≤ length l.places) × (l.found ≡ total (g.V.View.family l.view) (plains l.core (picked l.addends (drop l.left l.places))))

abbrev pub decreases-loop-left : goal.decreases-loop-left
decreases-loop-left g l = l.left
