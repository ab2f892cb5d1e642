use Rattle.std.proofs.Common.{◌≡◌, drop, map}
use Rattle.std.specs.List.{list_any}
use Rattle.opl_value.specs.Places.{dimension_values, has_none}
use Rattle.opl_value.proofs.index.has_empty.Given as goal

abbrev pub invariant-loop-dimension : goal.invariant-loop-dimension
invariant-loop-dimension l = list_any has_none (map dimension_values l.dims) ≡ list_any has_none (map dimension_values (drop l.dimension-index l.dims))
