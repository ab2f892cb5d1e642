use Rattle.opl_fit.proofs.TypedValues.{typed_values_fit}
use Rattle.opl_fit.proofs.laws.typed_values_fit.Goals as goal

pub returns : goal.returns
returns c = typed_values_fit
