use Rattle.std.proofs.Common.{◌≡◌, ◌∷◌, [], length}
use Rattle.opl_given.specs.Readings.{known_of}
use Rattle.opl_bind.specs.EachKey.{cell_at, over_keys}
use Rattle.opl_bind.specs.Keys.{to_come}
use Rattle.opl_bind.specs.Scopes.{names_in}
use Rattle.opl_bind.specs.Written as spec
use Rattle.opl_bind.proofs.each.values_walked.Given as goal

abbrev pub decreases-loop-cells : goal.decreases-loop-cells
decreases-loop-cells l = length (to_come l.walk)

abbrev pub invariant-loop-cells : goal.invariant-loop-cells
invariant-loop-cells l =
    over_keys (cell_at (spec.written (known_of l.types) l.term).fit l.form (l.first ∷ l.rest) (names_in l.scope)) [] (to_come l.fn.walk)
    ≡ over_keys (cell_at (spec.written (known_of l.types) l.term).fit l.form (l.first ∷ l.rest) (names_in l.scope)) l.cells (to_come l.walk)
