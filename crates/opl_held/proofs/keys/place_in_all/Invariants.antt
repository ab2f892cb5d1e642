use Rattle.std.proofs.Common.{◌≡◌, ◌+◌, ◌*◌, ◌<◌, ◌^◌, false, length, map}
use Rattle.std.specs.List.{list_any}
use Rattle.opl_value.specs.Places.{dimension_values, elements, has_none, behind}
use Rattle.opl_held.specs.Keys.{key_place}
use Rattle.opl_held.proofs.keys.place_in_all.Given as goal

-- what is left of the key, behind the place that is found so far, has the place of the whole key
abbrev pub invariant-loop-dimension : goal.invariant-loop-dimension
invariant-loop-dimension l = record {
  filled : list_any has_none (map dimension_values l.left) ≡ false;
  countable : (l.found + 1) * elements (map dimension_values l.left) < 2 ^ 64;
  same : behind l.found (elements (map dimension_values l.left)) (key_place (map dimension_values l.left) l.rest) ≡ key_place (map dimension_values l.dims) l.parts;
}

abbrev pub decreases-loop-dimension : goal.decreases-loop-dimension
decreases-loop-dimension l = length l.left
