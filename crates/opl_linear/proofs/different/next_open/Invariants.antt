use Rattle.std.proofs.Common.{◌-◌, ◌≤◌, ◌<◌, ℕ, true, length}
use Rattle.opl_linear.specs.Roots.{Fixes, variable_at}
use Rattle.opl_linear.proofs.different.next_open.Given as goal

abbrev pub invariant-loop-at : goal.invariant-loop-at
invariant-loop-at g l = (l.from ≤ l.at) × (l.at ≤ length l.parts) × ((i : ℕ) → l.from ≤ i → i < l.at → Fixes (g.V.View.family l.view) (variable_at l.parts i) true)

abbrev pub decreases-loop-at : goal.decreases-loop-at
decreases-loop-at g l = length l.parts - l.at
