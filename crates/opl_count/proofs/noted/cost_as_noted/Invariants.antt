use Rattle.std.proofs.Common.{◌≡◌, ◌+◌, ◌≤◌, drop, length}
use Rattle.opl_notes.specs.Noted.{Tells}
use Rattle.opl_count.specs.Costs.{prices}
use Rattle.opl_count.specs.Places.{means_literals}
use Rattle.opl_count.proofs.noted.cost_as_noted.Given as goal

abbrev pub invariant-loop-left : goal.invariant-loop-left
invariant-loop-left g l = (l.left ≤ length l.literals) × (l.total ≡ l.paid + prices l.core (g.V.View.family l.view) (drop l.left l.literals)) × Tells (means_literals l.core l.literals l.first_place) l.fn.notes (g.V.View.family l.view) l.notes (g.V.View.family l.view)

abbrev pub decreases-loop-left : goal.decreases-loop-left
decreases-loop-left g l = l.left
