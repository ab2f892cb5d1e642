use Rattle.std.proofs.Common.{◌≡◌, [], drop}
use Rattle.opl_given.specs.Arrays as spec
use Rattle.opl_given.specs.Readings.{laid, lent}
use Rattle.opl_given.specs.declared.fault.BindFault.TheVariants.{Shape}
use Rattle.opl_given.proofs.cells.filled.Given as goal

abbrev pub invariant-loop-slot : goal.invariant-loop-slot
invariant-loop-slot l =
    spec.filled (Shape l.source.file l.source.at) [] (laid l.slots)
    ≡ spec.filled (Shape l.source.file l.source.at) (lent l.cells) (laid (drop l.slot-index l.slots))
