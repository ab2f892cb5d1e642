use Rattle.std.proofs.Common.{◌≡◌, ◌≤◌, true, map, length, drop}
use Rattle.opl_connective.specs.Trees.{tree, trees_of}
use Rattle.opl_connective.specs.Ends.{trees_see_ends}
use Rattle.opl_connective.proofs.deciding.+deciding.Given as goal

abbrev pub invariant-all_see_ends-loop-left : goal.invariant-all_see_ends-loop-left
invariant-all_see_ends-loop-left l = (l.left ≤ length l.nodes) × (trees_see_ends l.is_opposite (trees_of (map tree (drop l.left l.nodes))) ≡ true)

abbrev pub decreases-all_see_ends-loop-left : goal.decreases-all_see_ends-loop-left
decreases-all_see_ends-loop-left l = l.left
