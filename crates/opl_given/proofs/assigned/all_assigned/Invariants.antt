use Rattle.std.proofs.Common.{◌≡◌, drop}
use Rattle.opl_value.specs.Places.{lists}
use Rattle.opl_given.specs.Assigned as spec
use Rattle.opl_given.proofs.assigned.all_assigned.Given as goal

abbrev pub invariant-loop-given : goal.invariant-loop-given
invariant-loop-given l =
    spec.all_assigned l.name (lists l.keys.space) l.fn.cells.items l.overrides
    ≡ spec.all_assigned l.name (lists l.keys.space) l.cells.items (drop l.given-index l.overrides)
