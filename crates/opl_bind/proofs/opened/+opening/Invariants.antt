use Rattle.std.proofs.Common.{◌≡◌, ◌+◌, ◌*◌, [], drop, length, map}
use Rattle.opl_given.specs.declared.fault.BindFault.TheVariants.{Shape}
use Rattle.opl_bind.specs.Cells.{fits, fits_at, terms_at}
use Rattle.opl_given.specs.Readings.{axis_of, known_of, lent}
use Rattle.opl_bind.specs.Scopes.{names_in}
use Rattle.opl_bind.specs.Written as spec
use Rattle.opl_bind.proofs.opened.+opening.Given as goal

abbrev pub decreases-cells_of : goal.decreases-cells_of
decreases-cells_of l = 4 * length l.axes.now + 1

abbrev pub decreases-cells_over : goal.decreases-cells_over
decreases-cells_over l = 4 * length l.axes.now + 4

abbrev pub decreases-keyed : goal.decreases-keyed
decreases-keyed l = 4 * length l.axes.now + 3

abbrev pub decreases-opened : goal.decreases-opened
decreases-opened l = 4 * length l.axes.now + 2

abbrev pub decreases-laid : goal.decreases-laid
decreases-laid l = 4 * length l.axes.now + 2

abbrev pub invariant-opened-loop-part : goal.invariant-opened-loop-part
invariant-opened-loop-part l =
    spec.opened (Shape 0 l.opening.at) (map axis_of l.axes) (names_in l.opening.scope) [] (map (spec.written (known_of l.opening.types.now)) l.parts)
    ≡ spec.opened (Shape 0 l.opening.at) (map axis_of l.axes) (names_in l.opening.scope) (fits (known_of l.opening.types.now) (lent l.all)) (map (spec.written (known_of l.opening.types.now)) (drop l.part-index l.parts))

abbrev pub invariant-laid-loop-key : goal.invariant-laid-loop-key
invariant-laid-loop-key l =
    spec.laid (Shape 0 l.opening.at) (axis_of l.axis) (map axis_of l.axes) (names_in l.opening.scope) (spec.free_slots (map (spec.written (known_of l.opening.types.now)) l.keys)) (map (spec.written (known_of l.opening.types.now)) l.keys) (map (spec.written (known_of l.opening.types.now)) l.cells)
    ≡ spec.laid (Shape 0 l.opening.at) (axis_of l.axis) (map axis_of l.axes) (names_in l.opening.scope) (fits_at (known_of l.opening.types.now) (terms_at l.slots.items)) (map (spec.written (known_of l.opening.types.now)) (drop l.key-index l.keys)) (map (spec.written (known_of l.opening.types.now)) l.left)
