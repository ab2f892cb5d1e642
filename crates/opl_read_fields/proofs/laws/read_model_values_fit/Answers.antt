use Rattle.opl_read_fields.proofs.Read.{read_model_values_fit}
use Rattle.opl_read_fields.proofs.laws.read_model_values_fit.Goals as goal

pub returns : goal.returns
returns c = read_model_values_fit
