use Rattle.opl_clean.proofs.Decided.{params_name_none}
use Rattle.opl_clean.proofs.laws.params_name_none.Goals as goal

pub returns : goal.returns
returns c = params_name_none
