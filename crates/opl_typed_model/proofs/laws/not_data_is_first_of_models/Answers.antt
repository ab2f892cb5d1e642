use Rattle.opl_typed_model.proofs.FirstItems.{not_data_is_first_of_models}
use Rattle.opl_typed_model.proofs.laws.not_data_is_first_of_models.Goals as goal

pub returns : goal.returns
returns c = not_data_is_first_of_models
