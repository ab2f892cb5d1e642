use Rattle.opl_not_data.proofs.Known.{not_data_is_exact}
use Rattle.opl_not_data.proofs.laws.not_data_is_exact.Goals as goal

pub returns : goal.returns
returns c = not_data_is_exact
