use Rattle.std.proofs.Common.{◌≡◌, ◌*◌, ◌<◌, ◌≤◌, ◌^◌, false, drop, map}
use Rattle.std.specs.List.{list_any}
use Rattle.opl_value.specs.Places.{dimension_values, elements, has_none}
use Rattle.opl_value.proofs.count.product.Given as goal

-- what was found so far, times the keys of the dimensions that are left
abbrev pub invariant-loop-dimension : goal.invariant-loop-dimension
invariant-loop-dimension l =
    (1 ≤ l.found)
    × (l.found < 2 ^ 64)
    × (list_any has_none (map dimension_values (drop l.dimension-index l.dims)) ≡ false)
    × (l.found * elements (map dimension_values (drop l.dimension-index l.dims)) ≡ elements (map dimension_values l.dims))
