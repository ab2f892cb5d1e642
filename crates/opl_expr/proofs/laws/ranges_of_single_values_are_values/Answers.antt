use Rattle.opl_expr.proofs.SingleValues.{single_values}
use Rattle.opl_expr.proofs.laws.ranges_of_single_values_are_values.Goals as goal

pub returns : goal.returns
returns c = single_values
