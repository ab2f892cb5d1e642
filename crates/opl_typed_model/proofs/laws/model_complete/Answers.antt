use Rattle.opl_typed_model.proofs.Lawful.{model_complete}
use Rattle.opl_typed_model.proofs.laws.model_complete.Goals as goal

pub returns : goal.returns
returns c = model_complete
