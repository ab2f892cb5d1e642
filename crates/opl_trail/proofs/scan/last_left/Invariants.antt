use Rattle.opl_trail.proofs.Words.{ScansDown}
use Rattle.opl_trail.proofs.scan.last_left.Given as goal

abbrev pub invariant-loop-left : goal.invariant-loop-left
invariant-loop-left l = ScansDown l.trail.top l.first l.to l.place l.left

abbrev pub decreases-loop-left : goal.decreases-loop-left
decreases-loop-left l = l.place
