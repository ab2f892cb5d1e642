use Rattle.opl_trace.specs.Sweeps.{size}
use Rattle.opl_filter.specs.Filtering.{refutes, IsLeftOf}
use Rattle.opl_reify.specs.Parts.{any_of}
use Rattle.opl_reify.proofs.filtering.filter_any.Given as goal

abbrev pub invariant-loop-outcome : goal.invariant-loop-outcome
invariant-loop-outcome g l = IsLeftOf (refutes (any_of l.core l.parts)) (g.N.View.family l.initial.n) (g.N.View.family l.n) × g.N.Narrow.leads_to l.initial.n l.n

abbrev pub decreases-loop-outcome : goal.decreases-loop-outcome
decreases-loop-outcome g l = size (g.N.View.family l.n)
