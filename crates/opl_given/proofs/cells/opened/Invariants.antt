use Rattle.std.proofs.Common.{◌≡◌, [], drop}
use Rattle.opl_given.specs.Arrays as spec
use Rattle.opl_given.specs.Readings.{axis_of, known_of, lent}
use Rattle.opl_given.specs.declared.fault.BindFault.TheVariants.{Shape}
use Rattle.opl_given.proofs.cells.opened.Given as goal

abbrev pub invariant-loop-value : goal.invariant-loop-value
invariant-loop-value l =
    spec.opened (known_of l.types) (Shape l.source.file l.source.at) (axis_of l.axis) [] (lent l.values)
    ≡ spec.opened (known_of l.types) (Shape l.source.file l.source.at) (axis_of l.axis) (lent l.all) (lent (drop l.value-index l.values))
