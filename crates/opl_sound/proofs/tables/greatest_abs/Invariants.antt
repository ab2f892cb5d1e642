use Rattle.std.proofs.Common.{◌≡◌, ◌≤◌, length, drop}
use Rattle.opl_expr.specs.Sound.{greatest_abs}
use Rattle.opl_sound.proofs.tables.greatest_abs.Given as goal

abbrev pub invariant-loop-left : goal.invariant-loop-left
invariant-loop-left l = (l.left ≤ length l.numbers) × (l.found ≡ greatest_abs (drop l.left l.numbers))

abbrev pub decreases-loop-left : goal.decreases-loop-left
decreases-loop-left l = l.left
