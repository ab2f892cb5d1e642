use Rattle.opl_not_data.proofs.First.{not_data_is_first}
use Rattle.opl_not_data.proofs.laws.not_data_is_first.Goals as goal

pub returns : goal.returns
returns c = not_data_is_first
