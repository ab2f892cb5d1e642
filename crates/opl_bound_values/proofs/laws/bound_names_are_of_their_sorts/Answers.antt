use Rattle.opl_bound_values.proofs.Bound.{bound_names_are_of_their_sorts}
use Rattle.opl_bound_values.proofs.laws.bound_names_are_of_their_sorts.Goals as goal

pub returns : goal.returns
returns c = bound_names_are_of_their_sorts
