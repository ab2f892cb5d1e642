use Rattle.std.proofs.Common.{◌≡◌, [], ◌∷◌, drop, map}
use Rattle.opl_value.specs.Places.{dimension_values}
use Rattle.opl_given.specs.declared.fault.BindFault.TheVariants.{Shape}
use Rattle.opl_given.specs.Arrays.{values_of}
use Rattle.opl_given.specs.Readings.{axis_of}
use Rattle.opl_bind.specs.Written as spec
use Rattle.opl_bind.proofs.taken.places_among.Given as goal

abbrev pub invariant-loop-axis : goal.invariant-loop-axis
invariant-loop-axis l =
    spec.places_among (Shape 0 l.at) (0 ∷ []) (map values_of (map axis_of l.axes)) (map dimension_values l.others)
    ≡ spec.places_among (Shape 0 l.at) l.places.items (map values_of (map axis_of (drop l.axis-index l.axes))) (map dimension_values l.left)
