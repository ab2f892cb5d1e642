use Rattle.opl_unfolding.proofs.Onto.{onto-end}
use Rattle.opl_unfolding.proofs.laws.onto_end.Goals as goal

pub returns : goal.returns
returns c = onto-end
