use Rattle.opl_domain.proofs.IntervalLaws.{max_is_exact}
use Rattle.opl_domain.proofs.laws.maxima_are_exact.Goals as goal

pub returns : goal.returns
returns c = max_is_exact
