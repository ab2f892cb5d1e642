use Rattle.opl_draft.proofs.Clean.{instances_clean}
use Rattle.opl_draft.proofs.laws.instances_clean.Goals as goal

pub returns : goal.returns
returns c = instances_clean
