use Rattle.opl_unfolding.proofs.Instances.{posted-in-turn}
use Rattle.opl_unfolding.proofs.laws.posted_in_turn.Goals as goal

pub returns : goal.returns
returns c = posted-in-turn
