use Rattle.std.proofs.Common.{◌≡◌, map, take}
use Rattle.opl_given.specs.Elements.{left}
use Rattle.opl_value.specs.Places.{dimension_values}
use Rattle.opl_names.proofs.variables.sets_of.Given as goal

abbrev pub invariant-loop-dimension : goal.invariant-loop-dimension
invariant-loop-dimension l = map left l.sets.items ≡ map dimension_values (take l.dimension-index l.dims)
