use Rattle.std.proofs.Common.{◌≡◌, [], drop, map}
use Rattle.opl_bind.specs.Cells.{fits}
use Rattle.opl_given.specs.Readings.{known_of, lent}
use Rattle.opl_bind.specs.Scopes.{names_in}
use Rattle.opl_given.specs.Values.{all_by_form}
use Rattle.opl_bind.proofs.opened.all_fitted.Given as goal

abbrev pub invariant-loop-cell : goal.invariant-loop-cell
invariant-loop-cell l =
    all_by_form [] (map (λ fit. λ f. fit f (names_in l.scope)) (fits (known_of l.types) (lent l.cells))) l.form
    ≡ all_by_form l.found (map (λ fit. λ f. fit f (names_in l.scope)) (fits (known_of l.types) (lent (drop l.cell-index l.cells)))) l.form
