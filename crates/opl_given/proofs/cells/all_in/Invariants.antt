use Rattle.std.proofs.Common.{◌≡◌, [], map, drop}
use Rattle.opl_given.specs.Readings.{known_of, lent}
use Rattle.opl_given.specs.Values.{all_by_form, value_in}
use Rattle.opl_given.proofs.cells.all_in.Given as goal

abbrev pub invariant-loop-cell : goal.invariant-loop-cell
invariant-loop-cell l =
    all_by_form [] (map (value_in (known_of l.types) l.file) (lent l.cells)) l.form
    ≡ all_by_form l.found (map (value_in (known_of l.types) l.file) (lent (drop l.cell-index l.cells))) l.form
