use Rattle.std.proofs.Common.{◌-◌, ◌/◌}
use Rattle.opl_trail.proofs.Words.{Scans}
use Rattle.opl_trail.proofs.scan.first_left.Given as goal

abbrev pub invariant-loop-left : goal.invariant-loop-left
invariant-loop-left l = Scans l.trail.top l.from l.last l.place l.left

abbrev pub decreases-loop-left : goal.decreases-loop-left
decreases-loop-left l = l.last / 64 - l.place
