use Rattle.std.proofs.Common.{◌≡◌, ◌++◌, drop}
use Rattle.opl_value.proofs.value.+copies.Given as goal

abbrev pub invariant-copy_values-loop-value : goal.invariant-copy_values-loop-value
invariant-copy_values-loop-value l = l.values ≡ l.copies ++ drop l.value-index l.values

abbrev pub invariant-copy_dimensions-loop-dimension : goal.invariant-copy_dimensions-loop-dimension
invariant-copy_dimensions-loop-dimension l = l.dims ≡ l.copies ++ drop l.dimension-index l.dims
