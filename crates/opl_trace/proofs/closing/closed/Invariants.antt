use Rattle.opl_trace.specs.Sweeps.{size}
use Rattle.opl_trace.specs.Removals.{Kept}
use Rattle.opl_trace.proofs.closing.closed.Given as goal

abbrev pub invariant-loop-sets : goal.invariant-loop-sets
invariant-loop-sets g l = Kept (g.T.Test.dead l.test) l.initial.sets l.sets

abbrev pub decreases-loop-sets : goal.decreases-loop-sets
decreases-loop-sets g l = size l.sets
