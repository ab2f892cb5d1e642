use Rattle.std.proofs.Common.{◌≡◌}
use Rattle.opl_trace.specs.Marks.{numbers_from}
use Rattle.opl_reference_labelling.proofs.marks.variables.Given as goal

abbrev pub invariant-loop-x : goal.invariant-loop-x
invariant-loop-x l = l.variables ≡ numbers_from 0 l.x
