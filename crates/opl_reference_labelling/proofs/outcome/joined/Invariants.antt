use Rattle.std.proofs.Common.{◌≡◌, ◌++◌}
use Rattle.opl_reference_labelling.proofs.outcome.joined.Given as goal

abbrev pub invariant-loop-mark : goal.invariant-loop-mark
invariant-loop-mark l = l.marks ≡ l.fn.first ++ l.yielded
