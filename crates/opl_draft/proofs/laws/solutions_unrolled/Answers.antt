use Rattle.opl_draft.proofs.Instances.{solutions_unrolled}
use Rattle.opl_draft.proofs.laws.solutions_unrolled.Goals as goal

pub returns : goal.returns
returns c = solutions_unrolled
