use Rattle.std.proofs.Common.{◌≤◌, length, drop}
use Rattle.opl_count.specs.Sums.{AreApart}
use Rattle.opl_count.proofs.ties.shares.Given as goal

abbrev pub invariant-loop-left : goal.invariant-loop-left
invariant-loop-left l = (l.left ≤ length l.xs) × AreApart (drop l.left l.xs) l.ys

abbrev pub decreases-loop-left : goal.decreases-loop-left
decreases-loop-left l = l.left
