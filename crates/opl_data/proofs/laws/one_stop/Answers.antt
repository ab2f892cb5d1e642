use Rattle.opl_data.proofs.TreeLaws.{one_stop}
use Rattle.opl_data.proofs.laws.one_stop.Goals as goal

pub returns : goal.returns
returns c = one_stop
