use Rattle.opl_held.proofs.Data.{data_stays}
use Rattle.opl_held.proofs.laws.data_stays.Goals as goal

pub returns : goal.returns
returns c = data_stays
