use Rattle.opl_trace.specs.Sweeps.{size}
use Rattle.opl_filter.specs.Filtering.{IsLeftOf}
use Rattle.opl_filter.proofs.rounds.remove_dead.Given as goal

abbrev pub invariant-loop : goal.invariant-loop
invariant-loop g l = IsLeftOf (g.T.Test.dead l.test) (g.N.View.family l.initial.n) (g.N.View.family l.n) × g.N.Narrow.leads_to l.initial.n l.n

abbrev pub decreases-loop : goal.decreases-loop
decreases-loop g l = size (g.N.View.family l.n)
