use Rattle.opl_filter.proofs.Removals.{left_join}
use Rattle.opl_filter.proofs.laws.removals_join.Goals as goal

pub returns : goal.returns
returns c = left_join
