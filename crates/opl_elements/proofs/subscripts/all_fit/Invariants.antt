use Rattle.std.proofs.Common.{◌≡◌, length, map}
use Rattle.opl_value.specs.Places.{dimension_values}
use Rattle.opl_nodes.specs.Pieces.{forms}
use Rattle.opl_elements.specs.Places as spec
use Rattle.opl_elements.proofs.subscripts.all_fit.Given as goal

-- what is left decides
abbrev pub invariant-loop-dimension : goal.invariant-loop-dimension
invariant-loop-dimension l = spec.all_fit (map dimension_values l.dims) (forms l.parts) ≡ spec.all_fit (map dimension_values l.left) (forms l.rest)

abbrev pub decreases-loop-dimension : goal.decreases-loop-dimension
decreases-loop-dimension l = length l.left
