use Rattle.opl_bound_values.proofs.Bound.{bound_values_fit}
use Rattle.opl_bound_values.proofs.laws.bound_values_fit.Goals as goal

pub returns : goal.returns
returns c = bound_values_fit
