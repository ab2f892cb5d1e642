use Rattle.opl_expr.proofs.Narrower.{monotony}
use Rattle.opl_expr.proofs.laws.narrower_families_have_narrower_ranges.Goals as goal

pub returns : goal.returns
returns c = monotony
