use Rattle.std.proofs.Common.{◌≡◌, length}
use Rattle.opl_all_different.proofs.constructor.marks.Given as goal

abbrev pub invariant-loop-i : goal.invariant-loop-i
invariant-loop-i l = length l.marks.items ≡ l._i
