use Rattle.std.proofs.Common.{◌≡◌}
use Rattle.opl_value.specs.Sets.{with_new}
use Rattle.opl_value.proofs.set.make_set.Given as goal

abbrev pub invariant-loop-item : goal.invariant-loop-item
invariant-loop-item l = l.found.keys ≡ with_new l.initial.found.keys l.yielded
