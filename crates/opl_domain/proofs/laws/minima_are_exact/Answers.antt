use Rattle.opl_domain.proofs.IntervalLaws.{min_is_exact}
use Rattle.opl_domain.proofs.laws.minima_are_exact.Goals as goal

pub returns : goal.returns
returns c = min_is_exact
