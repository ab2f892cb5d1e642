use Rattle.std.proofs.Common.{arith}
use Rattle.opl_item_types.proofs.Items.{outside}
use Rattle.opl_item_types.proofs.item.optimized.Goals as goal

pub returns-in_err-node : goal.returns-in_err-node
returns-in_err-node c = grind (arith, outside)

pub returns-in_err-settled : goal.returns-in_err-settled
returns-in_err-settled c = grind (arith, outside)

pub returns : goal.returns
returns c = grind (arith, outside)
