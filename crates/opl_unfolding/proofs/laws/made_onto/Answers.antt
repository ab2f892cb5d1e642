use Rattle.opl_unfolding.proofs.Onto.{made-onto}
use Rattle.opl_unfolding.proofs.laws.made_onto.Goals as goal

pub returns : goal.returns
returns c = made-onto
