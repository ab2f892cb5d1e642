use Rattle.std.proofs.Common.{◌≡◌, [], length}
use Rattle.opl_value.specs.Places.{dimension_values}
use Rattle.opl_given.specs.declared.fault.BindFault.TheVariants.{Shape}
use Rattle.opl_given.specs.Elements.{left}
use Rattle.opl_bind.specs.Written as spec
use Rattle.opl_bind.proofs.taken.places_in.Given as goal

abbrev pub decreases-loop-element : goal.decreases-loop-element
decreases-loop-element l = length (left l.rest)

abbrev pub invariant-loop-element : goal.invariant-loop-element
invariant-loop-element l =
    spec.matched (Shape 0 l.at) (dimension_values l.lookup.dimension.now) [] (left l.elements)
    ≡ spec.matched (Shape 0 l.at) (dimension_values l.lookup.dimension.now) l.places.items (left l.rest)
