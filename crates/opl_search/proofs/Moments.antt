-- The sets of a moment.
use Rattle.std.proofs.Common.{◌≡◌, length}
use Rattle.opl_expr.specs.Solutions.{declared}
use Rattle.opl_trace.specs.Marks.{objective}
use Rattle.opl_trace.proofs.Posting.{closed_stable}
use Rattle.opl_search.specs.States.{State, moment, IsMoment}

-- there is one for each variable
pub moment_long : (s : State) → IsMoment s → length s.sets ≡ length (declared s.core)
unfolding moment
moment_long s e = (closed_stable (objective s.core) (declared s.core) s.posted s.best s.sets e).within.same
