use Rattle.opl_unfolding.proofs.Forms.{drafts-of-steps}
use Rattle.opl_unfolding.proofs.laws.drafts_of_steps.Goals as goal

pub returns : goal.returns
returns c = drafts-of-steps c.step_by_form.ensures
