use Rattle.opl_unfolding.proofs.Forms.{live-drafts}
use Rattle.opl_unfolding.proofs.laws.live_drafts.Goals as goal

pub returns : goal.returns
returns c = live-drafts c.unrolled_by_form.ensures
