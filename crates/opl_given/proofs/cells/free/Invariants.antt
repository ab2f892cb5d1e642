use Rattle.std.proofs.Common.{◌≡◌, ◌++◌, drop}
use Rattle.opl_given.specs.Arrays as spec
use Rattle.opl_given.specs.Readings.{laid}
use Rattle.opl_given.proofs.cells.free.Given as goal

abbrev pub invariant-loop-pair : goal.invariant-loop-pair
invariant-loop-pair l = spec.free l.pairs ≡ laid l.slots.items ++ spec.free (drop l.pair-index l.pairs)
