use Rattle.std.proofs.Common.{◌≡◌, ◌≤◌, length, drop}
use Rattle.opl_sound.specs.Ground.{count, set_values}
use Rattle.opl_sound.proofs.ground.all_values.Given as goal

abbrev pub invariant-loop-left : goal.invariant-loop-left
invariant-loop-left l = (l.left ≤ length l.sets) × (l.found ≡ count set_values (drop l.left l.sets))

abbrev pub decreases-loop-left : goal.decreases-loop-left
decreases-loop-left l = l.left
