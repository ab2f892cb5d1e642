use Rattle.std.proofs.Common.{◌≡◌, ◌++◌, drop, map}
use Rattle.opl_value.specs.Places.{dimension_values}
use Rattle.opl_given.specs.Elements.{left}
use Rattle.opl_meaning.proofs.sets.sets_of.Given as goal

abbrev pub invariant-loop-dimension : goal.invariant-loop-dimension
invariant-loop-dimension l = map dimension_values l.dimensions ≡ map left l.sets.items ++ map dimension_values (drop l.dimension-index l.dimensions)
