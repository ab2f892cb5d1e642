use Rattle.std.proofs.Common.{arith}
use Rattle.opl_item_types.proofs.Items.{fronts}
use Rattle.opl_item_types.proofs.search.order.Goals as goal

pub returns-in-None : goal.returns-in-None
returns-in-None c = grind (arith, fronts)

pub returns-in_err-node-in-Some : goal.returns-in_err-node-in-Some
returns-in_err-node-in-Some c = grind (arith, fronts)

pub returns-in_err-settled-in-Some : goal.returns-in_err-settled-in-Some
returns-in_err-settled-in-Some c = grind (arith, fronts)

pub returns-in_ok-settled-in-Some : goal.returns-in_ok-settled-in-Some
returns-in_ok-settled-in-Some c = grind (arith, fronts)
