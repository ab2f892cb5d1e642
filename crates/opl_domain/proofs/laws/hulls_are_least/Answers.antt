use Rattle.opl_domain.proofs.IntervalLaws.{hull_is_least}
use Rattle.opl_domain.proofs.laws.hulls_are_least.Goals as goal

pub returns : goal.returns
returns c = hull_is_least
