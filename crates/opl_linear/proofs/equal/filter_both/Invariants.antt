use Rattle.opl_trace.specs.Sweeps.{size}
use Rattle.opl_filter.specs.Filtering.{IsLeftOf}
use Rattle.opl_linear.specs.Linear.{factor_in, is_above}
use Rattle.opl_linear.specs.Alternating.{either}
use Rattle.opl_linear.proofs.equal.filter_both.Given as goal

abbrev pub invariant-loop-changed : goal.invariant-loop-changed
invariant-loop-changed g l = IsLeftOf (either (is_above (factor_in l.up) l.k) (is_above (factor_in l.down) l.m)) (g.N.View.family l.initial.n) (g.N.View.family l.n) × g.N.Narrow.leads_to l.initial.n l.n

abbrev pub decreases-loop-changed : goal.decreases-loop-changed
decreases-loop-changed g l = size (g.N.View.family l.n)
