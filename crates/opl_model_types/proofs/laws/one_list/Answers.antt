use Rattle.opl_model_types.proofs.Outcome.{one_list}
use Rattle.opl_model_types.proofs.laws.one_list.Goals as goal

pub returns : goal.returns
returns c = one_list
