use Rattle.std.proofs.Common.{◌≡◌, ◌++◌, drop}
use Rattle.opl_given.proofs.index.copies.Given as goal

abbrev pub invariant-loop-value : goal.invariant-loop-value
invariant-loop-value l = l.values ≡ l.copies ++ drop l.value-index l.values
