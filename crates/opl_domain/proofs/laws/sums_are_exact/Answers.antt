use Rattle.opl_domain.proofs.IntervalLaws.{add_is_exact}
use Rattle.opl_domain.proofs.laws.sums_are_exact.Goals as goal

pub returns : goal.returns
returns c = add_is_exact
