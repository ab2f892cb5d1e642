use Rattle.std.proofs.Common.{pos, ◌+ℤ◌}
use Rattle.std.specs.Prelude.{neg_ℤ}
use Rattle.opl_domain.specs.Span.{count_from}
use Rattle.opl_range.proofs.Roots.{Passed}
use Rattle.opl_linear_filter.proofs.short.meets_by_values.Given as goal

abbrev pub invariant-loop-x : goal.invariant-loop-x
invariant-loop-x g l = Passed (g.V.View.family l.view) l.x l.y l.shift l.v

abbrev pub decreases-loop-x : goal.decreases-loop-x
decreases-loop-x g l = count_from (pos 9223372036854775808 +ℤ neg_ℤ l.v)
