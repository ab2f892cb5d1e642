use Rattle.std.proofs.Common.{◌≡◌, ◌-◌, ◌*◌, ◌≤◌, length, drop}
use Rattle.std.specs.Prelude.{unsigned_abs}
use Rattle.opl_sum_filter.specs.Sums.{total_most}
use Rattle.opl_sum_filter.proofs.total_most.Given as goal

abbrev pub invariant-loop-left : goal.invariant-loop-left
invariant-loop-left g l = (l.left ≤ length l.variables) × (l.total ≡ total_most (g.V.View.family l.v) (drop l.left l.variables)) × (unsigned_abs l.total ≤ (length l.variables - l.left) * 9223372036854775808)

abbrev pub decreases-loop-left : goal.decreases-loop-left
decreases-loop-left g l = l.left
