use Rattle.opl_filter.proofs.Removals.{lose_none}
use Rattle.opl_filter.proofs.laws.removals_lose_none.Goals as goal

pub returns : goal.returns
returns c = lose_none
