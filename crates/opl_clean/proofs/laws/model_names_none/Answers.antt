use Rattle.opl_clean.proofs.Declared.{model_names_none}
use Rattle.opl_clean.proofs.laws.model_names_none.Goals as goal

pub returns : goal.returns
returns c = model_names_none
