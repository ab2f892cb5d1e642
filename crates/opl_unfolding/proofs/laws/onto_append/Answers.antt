use Rattle.opl_unfolding.proofs.Onto.{onto-append}
use Rattle.opl_unfolding.proofs.laws.onto_append.Goals as goal

pub returns : goal.returns
returns c = onto-append
