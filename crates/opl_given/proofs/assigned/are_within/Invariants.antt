use Rattle.std.proofs.Common.{◌≡◌, drop}
use Rattle.std.specs.List.{list_all}
use Rattle.opl_given.specs.Assigned as spec
use Rattle.opl_given.proofs.assigned.are_within.Given as goal

abbrev pub invariant-loop-value : goal.invariant-loop-value
invariant-loop-value l = list_all (spec.is_within l.form) l.values ≡ list_all (spec.is_within l.form) (drop l.value-index l.values)
