use Rattle.opl_model_types.proofs.NamesInModels.{model_is_declared}
use Rattle.opl_model_types.proofs.laws.model_is_declared.Goals as goal

pub returns : goal.returns
returns c = model_is_declared
