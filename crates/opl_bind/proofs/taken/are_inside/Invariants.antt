use Rattle.std.proofs.Common.{◌≡◌, drop}
use Rattle.std.specs.List.{list_all}
use Rattle.opl_given.specs.Inside.{is_inside}
use Rattle.opl_given.specs.Readings.{known_of}
use Rattle.opl_bind.proofs.taken.are_inside.Given as goal

abbrev pub invariant-loop-cell : goal.invariant-loop-cell
invariant-loop-cell l =
    list_all (λ v. is_inside (known_of l.types) v l.form) l.cells
    ≡ list_all (λ v. is_inside (known_of l.types) v l.form) (drop l.cell-index l.cells)
