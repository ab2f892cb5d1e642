use Rattle.std.proofs.Common.{◌≡◌, ◌≤◌, length, drop}
use Rattle.opl_sound.specs.Measures.{measure_uses}
use Rattle.opl_sound.proofs.variables.measure_uses.Given as goal

abbrev pub invariant-loop-left : goal.invariant-loop-left
invariant-loop-left l = (l.left ≤ length l.uses) × (l.found ≡ measure_uses l.core.sets l.time (drop l.left l.uses))

abbrev pub decreases-loop-left : goal.decreases-loop-left
decreases-loop-left l = l.left
