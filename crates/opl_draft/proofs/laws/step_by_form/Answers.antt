use Rattle.opl_draft.proofs.Forms.{step_by_form}
use Rattle.opl_draft.proofs.laws.step_by_form.Goals as goal

pub returns : goal.returns
returns c = step_by_form
