use Rattle.opl_unfolding.proofs.Folds.{made-steps}
use Rattle.opl_unfolding.proofs.laws.made_steps.Goals as goal

pub returns : goal.returns
returns c = made-steps
