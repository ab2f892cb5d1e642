use Rattle.opl_reify.proofs.Trying.{TryingShared}
use Rattle.opl_reify.proofs.rounds.try_shared.Given as goal

abbrev pub invariant-loop-x : goal.invariant-loop-x
invariant-loop-x g l = TryingShared (g.T.Test.dead l.test) l.variables l.others (g.N.View.family l.initial.n) (g.N.View.family l.n) l.x-index l.removed × g.N.Narrow.leads_to l.initial.n l.n
