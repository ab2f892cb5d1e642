use Rattle.std.proofs.Common.{arith}
use Rattle.opl_item_types.proofs.Items.{outside}
use Rattle.opl_item_types.proofs.item.outer_block.Goals as goal

pub returns : goal.returns
returns c = grind (arith, outside)
