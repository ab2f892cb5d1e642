use Rattle.std.proofs.Common.{◌≡◌, take}
use Rattle.opl_reference_labelling.proofs.constraints.copies.Given as goal

abbrev pub invariant-loop-c : goal.invariant-loop-c
invariant-loop-c l = l.copies ≡ take l.c-index l.constraints
