use Rattle.std.proofs.Common.{◌-◌, ◌≤◌, ◌<◌, ℕ, not, map, length}
use Rattle.opl_connective.specs.Trees.{tree}
use Rattle.opl_connective.specs.Nodes.{TellsAt}
use Rattle.opl_connective.proofs.refuting.+refuting.Given as goal

abbrev pub invariant-first_told-loop-at : goal.invariant-first_told-loop-at
invariant-first_told-loop-at g l = (l.from ≤ l.at) × ((i : ℕ) → l.from ≤ i → i < l.at → TellsAt l.core (g.V.View.family l.view) l.is_opposite (map tree l.nodes) (not l.told) i)

abbrev pub decreases-first_told-loop-at : goal.decreases-first_told-loop-at
decreases-first_told-loop-at g l = length l.nodes - l.at
