use Rattle.opl_bound_fields.proofs.Told.{model_values_fit}
use Rattle.opl_bound_fields.proofs.laws.model_values_fit.Goals as goal

pub returns : goal.returns
returns c = model_values_fit
