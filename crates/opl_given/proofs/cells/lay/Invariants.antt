use Rattle.std.proofs.Common.{◌≡◌, drop}
use Rattle.opl_given.specs.Arrays as spec
use Rattle.opl_given.specs.Readings.{axis_of, known_of, laid}
use Rattle.opl_given.specs.declared.fault.BindFault.TheVariants.{Shape}
use Rattle.opl_given.proofs.cells.lay.Given as goal

abbrev pub invariant-loop-pair : goal.invariant-loop-pair
invariant-loop-pair l =
    spec.lay (known_of l.types) (Shape l.source.file l.source.at) (axis_of l.axis) (spec.free l.pairs) l.pairs
    ≡ spec.lay (known_of l.types) (Shape l.source.file l.source.at) (axis_of l.axis) (laid l.slots.items) (drop l.pair-index l.pairs)
