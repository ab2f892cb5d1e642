use Rattle.std.proofs.Common.{◌≡◌, take}
use Rattle.opl_reference_search.proofs.leaf.copied.Given as goal

abbrev pub invariant-loop-mark : goal.invariant-loop-mark
invariant-loop-mark l = l.copied ≡ take l.mark-index l.marks
