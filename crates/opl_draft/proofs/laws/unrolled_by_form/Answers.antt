use Rattle.opl_draft.proofs.Forms.{unrolled_by_form}
use Rattle.opl_draft.proofs.laws.unrolled_by_form.Goals as goal

pub returns : goal.returns
returns c = unrolled_by_form
