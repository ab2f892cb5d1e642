use Rattle.opl_unfolding.proofs.Onto.{onto-next}
use Rattle.opl_unfolding.proofs.laws.onto_next.Goals as goal

pub returns : goal.returns
returns c = onto-next
