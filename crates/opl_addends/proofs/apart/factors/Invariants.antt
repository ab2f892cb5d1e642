use Rattle.std.proofs.Common.{◌≡◌, ◌+◌, ◌≤◌, drop, length}
use Rattle.opl_addends.specs.Addends.{plains, picked, with_factor}
use Rattle.opl_addends.proofs.apart.factors.Given as goal

abbrev pub invariant-loop-left : goal.invariant-loop-left
invariant-loop-left l = (l.left ≤ length l.places) × (l.total + l.left ≤ length l.places) × (l.total ≡ with_factor l.x (plains l.core (picked l.addends (drop l.left l.places))))

abbrev pub decreases-loop-left : goal.decreases-loop-left
decreases-loop-left l = l.left
