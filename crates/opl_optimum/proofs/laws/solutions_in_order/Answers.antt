use Rattle.opl_optimum.proofs.Order.{solutions_in_order}
use Rattle.opl_optimum.proofs.laws.solutions_in_order.Goals as goal

pub returns : goal.returns
returns c = solutions_in_order
