use Rattle.opl_unfolding.proofs.Visits.{aggregates-by-choice}
use Rattle.opl_unfolding.proofs.laws.aggregates_by_choice.Goals as goal

pub returns : goal.returns
returns c = aggregates-by-choice
