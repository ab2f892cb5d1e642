use Rattle.std.proofs.Common.{None}
use Rattle.opl_solve.proofs.Counting.{Counting}
use Rattle.opl_solve.proofs.summary.count.Given as goal

abbrev pub invariant-loop-so_far : goal.invariant-loop-so_far
invariant-loop-so_far g l = Counting None l.fn.machine l.machine l.so_far l.solutions
