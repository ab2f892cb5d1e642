use Rattle.std.proofs.Common.{◌≡◌, ◌≤◌, take}
use Rattle.opl_trace.specs.Run.{choices}
use Rattle.opl_reference_labelling.specs.Outcomes.{marks_in}
use Rattle.opl_reference_search.proofs.leaf.choices.Given as goal

abbrev pub invariant-loop-mark : goal.invariant-loop-mark
invariant-loop-mark l = (l.count ≡ choices (marks_in l.core (take l.mark-index l.marks))) × (l.count ≤ l.mark-index)
