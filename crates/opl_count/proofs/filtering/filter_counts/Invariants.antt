use Rattle.opl_trace.specs.Sweeps.{size}
use Rattle.opl_filter.specs.Filtering.{IsLeftOf}
use Rattle.opl_linear.specs.Alternating.{either}
use Rattle.opl_notes.specs.Noted.{Tells}
use Rattle.opl_count.specs.Costs.{is_over}
use Rattle.opl_count.specs.Places.{means_both}
use Rattle.opl_count.proofs.filtering.filter_counts.Given as goal

abbrev pub invariant-loop-outcome : goal.invariant-loop-outcome
invariant-loop-outcome g l = IsLeftOf (either (is_over l.core l.first.costs) (is_over l.core l.second.costs)) (g.N.View.family l.initial.n) (g.N.View.family l.n) × g.N.Narrow.leads_to l.initial.n l.n × Tells (means_both l.core l.first l.second) l.fn.notes (g.N.View.family l.fn.n) l.notes (g.N.View.family l.n)

abbrev pub decreases-loop-outcome : goal.decreases-loop-outcome
decreases-loop-outcome g l = size (g.N.View.family l.n)
