use Rattle.std.proofs.Common.{◌≡◌, ◌≤◌, length, drop}
use Rattle.opl_trace.specs.GroundCores.{resource_nodes}
use Rattle.opl_sound.specs.Ground.{count}
use Rattle.opl_sound.proofs.nodes.all_resource_nodes.Given as goal

abbrev pub invariant-loop-left : goal.invariant-loop-left
invariant-loop-left l = (l.left ≤ length l.resources) × (l.found ≡ count resource_nodes (drop l.left l.resources))

abbrev pub decreases-loop-left : goal.decreases-loop-left
decreases-loop-left l = l.left
