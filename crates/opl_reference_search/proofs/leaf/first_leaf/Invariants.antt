use Rattle.std.proofs.Common.{◌≡◌, None, take}
use Rattle.opl_trace.specs.Run.{first_leaf}
use Rattle.opl_reference_labelling.specs.Outcomes.{marks_in}
use Rattle.opl_reference_search.proofs.leaf.first_leaf.Given as goal

abbrev pub invariant-loop-at : goal.invariant-loop-at
invariant-loop-at l = first_leaf (marks_in l.core (take l.at l.marks)) ≡ None
