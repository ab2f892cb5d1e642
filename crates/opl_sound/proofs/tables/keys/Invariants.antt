use Rattle.std.proofs.Common.{◌≡◌, ◌≤◌, length, drop}
use Rattle.opl_expr.specs.Sound.{keys}
use Rattle.opl_sound.specs.Measures.{counted}
use Rattle.opl_sound.proofs.tables.keys.Given as goal

abbrev pub invariant-loop-left : goal.invariant-loop-left
invariant-loop-left l = (l.left ≤ length l.dims) × (l.found ≡ counted (keys (drop l.left l.dims)))

abbrev pub decreases-loop-left : goal.decreases-loop-left
decreases-loop-left l = l.left
