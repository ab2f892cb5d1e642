use Rattle.opl_unfolding.proofs.Instances.{posted-by-choice}
use Rattle.opl_unfolding.proofs.laws.posted_by_choice.Goals as goal

pub returns : goal.returns
returns c = posted-by-choice
