use Rattle.std.proofs.Common.{◌≡◌, [], drop}
use Rattle.opl_given.specs.declared.fault.BindFault.TheVariants.{Shape}
use Rattle.opl_bind.specs.Cells.{terms_at}
use Rattle.opl_given.specs.Readings.{lent}
use Rattle.opl_bind.specs.Written as spec
use Rattle.opl_bind.proofs.opened.gathered.Given as goal

abbrev pub invariant-loop-slot : goal.invariant-loop-slot
invariant-loop-slot l =
    spec.gathered (Shape 0 l.at) [] (terms_at l.slots)
    ≡ spec.gathered (Shape 0 l.at) (lent l.all) (terms_at (drop l.slot-index l.slots))
