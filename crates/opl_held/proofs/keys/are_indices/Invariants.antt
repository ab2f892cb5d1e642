use Rattle.std.proofs.Common.{◌≡◌, length, map}
use Rattle.opl_value.specs.Places.{dimension_values}
use Rattle.opl_draft.specs.Settled as settled
use Rattle.opl_held.specs.Outcomes.{data_of}
use Rattle.opl_held.proofs.keys.are_indices.Given as goal

-- what is left decides
abbrev pub invariant-loop-dimension : goal.invariant-loop-dimension
invariant-loop-dimension l = settled.are_indices (map dimension_values l.dims) (map data_of l.parts) ≡ settled.are_indices (map dimension_values l.left) (map data_of l.rest)

abbrev pub decreases-loop-dimension : goal.decreases-loop-dimension
decreases-loop-dimension l = length l.left
