use Rattle.opl_model_types.proofs.ParamsOnce.{params_declare_once}
use Rattle.opl_model_types.proofs.laws.params_declare_once.Goals as goal

pub returns : goal.returns
returns c = params_declare_once
