use Rattle.opl_unfolding.proofs.Forms.{value-drafts}
use Rattle.opl_unfolding.proofs.laws.value_drafts.Goals as goal

pub returns : goal.returns
returns c = value-drafts c.unrolled_by_form.ensures
