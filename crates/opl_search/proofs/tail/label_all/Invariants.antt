use Rattle.std.proofs.Common.{◌≡◌}
use Rattle.opl_trace.specs.Marks.{numbers_from}
use Rattle.opl_search.proofs.tail.label_all.Given as goal

abbrev pub invariant-loop-x : goal.invariant-loop-x
invariant-loop-x l = l.numbers ≡ numbers_from 0 l.x
