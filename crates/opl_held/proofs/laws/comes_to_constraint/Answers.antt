use Rattle.opl_held.proofs.Made.{comes_to_constraint}
use Rattle.opl_held.proofs.laws.comes_to_constraint.Goals as goal

pub returns : goal.returns
returns c = comes_to_constraint
