use Rattle.std.proofs.Common.{◌≡◌, [], ◌∷◌, map, drop}
use Rattle.opl_given.specs.Arrays as spec
use Rattle.opl_given.specs.Readings.{axis_of, known_of, lent}
use Rattle.opl_given.specs.declared.fault.BindFault.TheVariants.{Shape}
use Rattle.opl_given.proofs.cells.flat.Given as goal

abbrev pub invariant-loop-axis : goal.invariant-loop-axis
invariant-loop-axis l =
    spec.flat (known_of l.types) (Shape l.source.file l.source.at) (map axis_of l.axes) (l.value ∷ [])
    ≡ spec.flat (known_of l.types) (Shape l.source.file l.source.at) (map axis_of (drop l.axis-index l.axes)) (lent l.cells)
