use Rattle.opl_unfolding.proofs.Forms.{drafts-of-forms}
use Rattle.opl_unfolding.proofs.laws.drafts_of_forms.Goals as goal

pub returns : goal.returns
returns c = drafts-of-forms
