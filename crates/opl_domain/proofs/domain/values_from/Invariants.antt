use Rattle.std.proofs.Common.{◌≡◌}
use Rattle.opl_domain.specs.Span.{ints_from}
use Rattle.opl_domain.proofs.domain.values_from.Given as goal

abbrev pub invariant-loop-place : goal.invariant-loop-place
invariant-loop-place l = l.values.items ≡ ints_from l.fn.lo l.place
