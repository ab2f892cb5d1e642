use Rattle.opl_draft.proofs.Unrolls.{unrolled_means}
use Rattle.opl_draft.proofs.laws.unrolled_means.Goals as goal

pub returns : goal.returns
returns c = unrolled_means
