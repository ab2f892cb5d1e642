use Rattle.opl_trace.specs.Sweeps.{size}
use Rattle.opl_filter.specs.Filtering.{IsLeftOf}
use Rattle.opl_addends.specs.Sums.{is_refuted}
use Rattle.opl_addends.proofs.rounds.filter_sum.Given as goal

abbrev pub invariant-loop-outcome : goal.invariant-loop-outcome
invariant-loop-outcome g l = IsLeftOf (is_refuted l.core l.sum) (g.N.View.family l.initial.n) (g.N.View.family l.n) × g.N.Narrow.leads_to l.initial.n l.n

abbrev pub decreases-loop-outcome : goal.decreases-loop-outcome
decreases-loop-outcome g l = size (g.N.View.family l.n)
