use Rattle.opl_typed_values.proofs.Sound.{values_are_of_their_sorts}
use Rattle.opl_typed_values.proofs.laws.values_are_of_their_sorts.Goals as goal

pub returns : goal.returns
returns c = values_are_of_their_sorts
