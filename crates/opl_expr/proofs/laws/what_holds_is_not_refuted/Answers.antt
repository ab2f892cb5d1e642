use Rattle.opl_expr.proofs.SingleValues.{none_refuted}
use Rattle.opl_expr.proofs.laws.what_holds_is_not_refuted.Goals as goal

pub returns : goal.returns
returns c = none_refuted
