use Rattle.std.proofs.Common.{◌≡◌, drop}
use Rattle.opl_given.specs.Assigned as spec
use Rattle.opl_given.proofs.assigned.is_assigned.Given as goal

abbrev pub invariant-loop-given : goal.invariant-loop-given
invariant-loop-given l = spec.is_assigned l.name l.overrides ≡ spec.is_assigned l.name (drop l.given-index l.overrides)
