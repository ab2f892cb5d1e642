use Rattle.opl_domain.proofs.IntervalLaws.{div_is_exact}
use Rattle.opl_domain.proofs.laws.quotients_are_exact.Goals as goal

pub returns : goal.returns
returns c = div_is_exact
