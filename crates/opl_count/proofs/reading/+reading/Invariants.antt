use Rattle.std.proofs.Common.{◌≤◌, length}
use Rattle.opl_count.proofs.Readings.{ReadFrom}
use Rattle.opl_count.proofs.reading.+reading.Given as goal

abbrev pub invariant-read_all-loop-left : goal.invariant-read_all-loop-left
invariant-read_all-loop-left l = (l.left ≤ length l.parts) × ReadFrom l.core l.is_negative l.parts l.left l.initial.costs l.costs

abbrev pub decreases-read_all-loop-left : goal.decreases-read_all-loop-left
decreases-read_all-loop-left l = l.left
