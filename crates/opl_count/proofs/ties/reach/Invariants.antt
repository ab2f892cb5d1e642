use Rattle.std.proofs.Common.{◌≤◌, length}
use Rattle.opl_count.proofs.Tying.{ReachesFrom}
use Rattle.opl_count.proofs.ties.reach.Given as goal

abbrev pub invariant-loop-left : goal.invariant-loop-left
invariant-loop-left l = (l.left ≤ length l.literals) × ReachesFrom l.literals l.at l.left l.total

abbrev pub decreases-loop-left : goal.decreases-loop-left
decreases-loop-left l = l.left
