use Rattle.opl_reference_labelling.proofs.Labels.{numbers_step}
use Rattle.opl_reference_labelling.proofs.marks.variables.Goals as goal

pub loop-x-preserved : goal.loop-x-preserved
loop-x-preserved c = numbers_step _ _ _ c.loop-x.invariant c.in_ok-push.ensures.ok
