use Rattle.std.proofs.Common.{◌≡◌, ◌++◌, map, drop}
use Rattle.opl_value.specs.Places.{dimension_values}
use Rattle.opl_form.specs.Parts.{indices_of}
use Rattle.opl_grounding.proofs.tables.all_indices.Given as goal

-- the indices so far, and those of the dimensions that are left
abbrev pub invariant-loop-dimension : goal.invariant-loop-dimension
invariant-loop-dimension l = l.found ++ map indices_of (map dimension_values (drop l.dimension-index l.dims)) ≡ map indices_of (map dimension_values l.dims)
