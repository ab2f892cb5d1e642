use Rattle.opl_filter.proofs.Removals.{left_wider}
use Rattle.opl_filter.proofs.laws.removals_widen.Goals as goal

pub returns : goal.returns
returns c = left_wider
