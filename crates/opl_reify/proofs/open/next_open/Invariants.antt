use Rattle.std.proofs.Common.{◌-◌, ◌≤◌, ◌<◌, ℕ, length}
use Rattle.opl_reify.specs.Parts.{IsRefutedAt}
use Rattle.opl_reify.proofs.open.next_open.Given as goal

abbrev pub invariant-loop-at : goal.invariant-loop-at
invariant-loop-at g l = (l.from ≤ l.at) × ((i : ℕ) → l.from ≤ i → i < l.at → IsRefutedAt l.core (g.V.View.family l.view) l.parts i)

abbrev pub decreases-loop-at : goal.decreases-loop-at
decreases-loop-at g l = length l.parts - l.at
