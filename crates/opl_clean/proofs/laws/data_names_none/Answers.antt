use Rattle.opl_clean.proofs.Decided.{data_names_none}
use Rattle.opl_clean.proofs.laws.data_names_none.Goals as goal

pub returns : goal.returns
returns c = data_names_none
