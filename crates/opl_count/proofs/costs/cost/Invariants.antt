use Rattle.std.proofs.Common.{◌≡◌, ◌+◌, ◌≤◌, drop, length}
use Rattle.opl_count.specs.Costs.{prices}
use Rattle.opl_count.proofs.costs.cost.Given as goal

abbrev pub invariant-loop-left : goal.invariant-loop-left
invariant-loop-left g l = (l.left ≤ length l.literals) × (l.total ≡ l.paid + prices l.core (g.V.View.family l.view) (drop l.left l.literals))

abbrev pub decreases-loop-left : goal.decreases-loop-left
decreases-loop-left g l = l.left
