use Rattle.std.proofs.Common.{◌≡◌, ◌≤◌, length, drop}
use Rattle.opl_expr.specs.Sound.{cells_magnitude}
use Rattle.opl_sound.proofs.tables.cells_magnitude.Given as goal

abbrev pub invariant-loop-left : goal.invariant-loop-left
invariant-loop-left l = (l.left ≤ length l.cells) × (l.found ≡ cells_magnitude l.core.sets (drop l.left l.cells))

abbrev pub decreases-loop-left : goal.decreases-loop-left
decreases-loop-left l = l.left
