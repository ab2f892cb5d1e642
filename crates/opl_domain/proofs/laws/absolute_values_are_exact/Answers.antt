use Rattle.opl_domain.proofs.IntervalLaws.{abs_is_exact}
use Rattle.opl_domain.proofs.laws.absolute_values_are_exact.Goals as goal

pub returns : goal.returns
returns c = abs_is_exact
