use Rattle.std.proofs.Common.{pos, ◌+ℤ◌}
use Rattle.std.specs.Prelude.{neg_ℤ}
use Rattle.opl_domain.specs.Span.{count_from}
use Rattle.opl_trace.proofs.Removals.{Passed}
use Rattle.opl_trace.proofs.closing.dead_value.Given as goal

abbrev pub invariant-loop-x : goal.invariant-loop-x
invariant-loop-x g l = Passed (g.T.Test.dead l.test) l.sets l.x l.v

abbrev pub decreases-loop-x : goal.decreases-loop-x
decreases-loop-x g l = count_from (pos 9223372036854775808 +ℤ neg_ℤ l.v)
