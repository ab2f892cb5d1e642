use Rattle.std.proofs.Common.{◌≡◌}
use Rattle.opl_truths.specs.Conditions as spec
use Rattle.opl_truths.proofs.condition.conditions.Given as goal

abbrev pub invariant-loop-part : goal.invariant-loop-part
invariant-loop-part l = l.found ≡ spec.conditions l.yielded
