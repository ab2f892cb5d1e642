use Rattle.std.proofs.Common.{◌≡◌, take}
use Rattle.opl_trace.specs.Run.{values_of}
use Rattle.opl_reference_labelling.proofs.labelling.values_of.Given as goal

abbrev pub invariant-loop-x : goal.invariant-loop-x
invariant-loop-x l = l.values ≡ take l.x (values_of l.sets)
