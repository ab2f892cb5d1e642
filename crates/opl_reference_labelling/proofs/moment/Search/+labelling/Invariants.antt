use Rattle.std.proofs.Common.{◌+◌, ◌*◌, length}
use Rattle.opl_domain.specs.Family.{set_of}
use Rattle.opl_reference_labelling.specs.Labelling.{values_then}
use Rattle.opl_trace.specs.SoundCores.{facts_in}
use Rattle.opl_reference_labelling.specs.Outcomes.{outcome}
use Rattle.opl_reference_labelling.proofs.Labels.{IsUnderWay}
use Rattle.opl_reference_labelling.proofs.Values.{from_on, IsIn}
use Rattle.opl_reference_labelling.proofs.moment.Search.+labelling.Given as goal

abbrev pub decreases-label : goal.decreases-label
decreases-label g l = 2 * length l.variables.now

abbrev pub decreases-values : goal.decreases-values
decreases-values g l = 2 * length l.others.now + 1

abbrev pub invariant-values-loop-next : goal.invariant-values-loop-next
invariant-values-loop-next g l =
    let core = l.self.core.now in
    (IsUnderWay core (values_then core l.x l.others (set_of l.sets l.x)) (values_then core l.x l.others (from_on l.next (set_of l.sets l.x))) (facts_in core l.posted) l.fn.best l.fn.left (outcome core l.made))
    × IsIn (set_of l.sets l.x) l.next

abbrev pub decreases-values-loop-next : goal.decreases-values-loop-next
decreases-values-loop-next g l = length (from_on l.next (set_of l.sets l.x))
