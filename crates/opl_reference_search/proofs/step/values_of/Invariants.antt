use Rattle.std.proofs.Common.{◌≡◌, ◌++◌, length}
use Rattle.opl_domain.specs.Family.{set_of}
use Rattle.opl_reference_labelling.proofs.Values.{from_on, IsIn}
use Rattle.opl_reference_search.proofs.step.values_of.Given as goal

abbrev pub invariant-loop-next : goal.invariant-loop-next
invariant-loop-next l = (set_of l.sets l.x ≡ l.values ++ from_on l.next (set_of l.sets l.x)) × IsIn (set_of l.sets l.x) l.next

abbrev pub decreases-loop-next : goal.decreases-loop-next
decreases-loop-next l = length (from_on l.next (set_of l.sets l.x))
