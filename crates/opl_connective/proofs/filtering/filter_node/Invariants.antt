use Rattle.std.proofs.Common.{false}
use Rattle.opl_trace.specs.Sweeps.{size}
use Rattle.opl_filter.specs.Filtering.{IsLeftOf}
use Rattle.opl_connective.specs.Trees.{tree, is_refuted}
use Rattle.opl_connective.proofs.filtering.filter_node.Given as goal

abbrev pub invariant-loop-outcome : goal.invariant-loop-outcome
invariant-loop-outcome g l = IsLeftOf (is_refuted l.core false (tree l.node)) (g.N.View.family l.initial.n) (g.N.View.family l.n) × g.N.Narrow.leads_to l.initial.n l.n

abbrev pub decreases-loop-outcome : goal.decreases-loop-outcome
decreases-loop-outcome g l = size (g.N.View.family l.n)
