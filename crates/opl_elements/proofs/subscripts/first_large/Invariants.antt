use Rattle.std.proofs.Common.{◌≡◌, length, map}
use Rattle.std.specs.List.{All}
use Rattle.opl_value.specs.Places.{dimension_values}
use Rattle.opl_nodes.specs.Pieces.{IsPart, forms}
use Rattle.opl_elements.specs.Places as spec
use Rattle.opl_elements.proofs.subscripts.first_large.Given as goal

-- what is left decides
abbrev pub invariant-loop-dimension : goal.invariant-loop-dimension
invariant-loop-dimension l = record {
  same : spec.first_large l.context (map dimension_values l.dims) l.places (forms l.parts) ≡ spec.first_large l.context (map dimension_values l.left) l.ahead (forms l.rest);
  right : All (IsPart l.context) l.rest;
}

abbrev pub decreases-loop-dimension : goal.decreases-loop-dimension
decreases-loop-dimension l = length l.left
