use Rattle.opl_filter.proofs.Trying.{TryingAll}
use Rattle.opl_filter.proofs.rounds.try_all.Given as goal

abbrev pub invariant-loop-x : goal.invariant-loop-x
invariant-loop-x g l = TryingAll (g.T.Test.dead l.test) l.variables (g.N.View.family l.initial.n) (g.N.View.family l.n) l.x-index l.removed × g.N.Narrow.leads_to l.initial.n l.n
