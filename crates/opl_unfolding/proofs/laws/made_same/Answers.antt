use Rattle.opl_unfolding.proofs.Folds.{made-same}
use Rattle.opl_unfolding.proofs.laws.made_same.Goals as goal

pub returns : goal.returns
returns c = made-same
