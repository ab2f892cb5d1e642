use Rattle.opl_eval.proofs.Items.{items-keyed}
use Rattle.opl_complete.proofs.laws.environments_are_keyed.Goals as goal

pub returns : goal.returns
returns c = items-keyed
