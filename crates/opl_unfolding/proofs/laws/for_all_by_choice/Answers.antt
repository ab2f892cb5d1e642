use Rattle.opl_unfolding.proofs.Instances.{for-all-by-choice}
use Rattle.opl_unfolding.proofs.laws.for_all_by_choice.Goals as goal

pub returns : goal.returns
returns c = for-all-by-choice
