use Rattle.std.proofs.Common.{◌≡◌, drop}
use Rattle.std.specs.Cmp.Lexicographic.{slice_cmp}
use Rattle.opl_value.specs.Order.{value_cmp, dimension_cmp}
use Rattle.opl_value.proofs.+orders.Given as goal

abbrev pub invariant-order::order_values-loop-value : goal.invariant-order::order_values-loop-value
invariant-order::order_values-loop-value l = slice_cmp value_cmp l.values l.others ≡ slice_cmp value_cmp (drop l.value-index l.values) l.left

abbrev pub invariant-order::order_dimensions-loop-dimension : goal.invariant-order::order_dimensions-loop-dimension
invariant-order::order_dimensions-loop-dimension l = slice_cmp dimension_cmp l.dims l.others ≡ slice_cmp dimension_cmp (drop l.dimension-index l.dims) l.left
