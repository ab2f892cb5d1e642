use Rattle.std.proofs.Common.{pos, ◌+ℤ◌}
use Rattle.std.specs.Prelude.{neg_ℤ}
use Rattle.opl_domain.specs.Span.{count_from}
use Rattle.opl_reify.proofs.Trying.{Trying}
use Rattle.opl_addends.specs.Rounds.{CanTry, SameBut}
use Rattle.opl_addends.proofs.values.try_values.Given as goal

abbrev pub invariant-loop-removed : goal.invariant-loop-removed
invariant-loop-removed g l =
    Trying (g.T.Test.dead l.test) (g.N.View.family l.initial.n) (g.N.View.family l.n) l.x l.v l.removed × g.N.Narrow.leads_to l.initial.n l.n
    × CanTry (g.T.Test.can_test l.test) (g.N.View.family l.n) l.x × SameBut l.x (g.N.View.family l.initial.n) (g.N.View.family l.n)

abbrev pub decreases-loop-removed : goal.decreases-loop-removed
decreases-loop-removed g l = count_from (pos 9223372036854775808 +ℤ neg_ℤ l.v)
