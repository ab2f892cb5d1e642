use Rattle.opl_read_fields.proofs.Read.{loaded_model_values_fit}
use Rattle.opl_read_fields.proofs.laws.loaded_model_values_fit.Goals as goal

pub returns : goal.returns
returns c = loaded_model_values_fit
