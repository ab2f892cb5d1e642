use Rattle.opl_domain.proofs.IntervalLaws.{mul_is_exact}
use Rattle.opl_domain.proofs.laws.products_are_exact.Goals as goal

pub returns : goal.returns
returns c = mul_is_exact
