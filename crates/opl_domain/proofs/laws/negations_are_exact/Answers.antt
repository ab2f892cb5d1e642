use Rattle.opl_domain.proofs.IntervalLaws.{neg_is_exact}
use Rattle.opl_domain.proofs.laws.negations_are_exact.Goals as goal

pub returns : goal.returns
returns c = neg_is_exact
