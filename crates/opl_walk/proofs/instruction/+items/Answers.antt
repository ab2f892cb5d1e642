use Rattle.std.proofs.Common.{arith}
use Rattle.opl_tree.proofs.Marks.{block_marks, item_marks, items_marks}
use Rattle.opl_walk.proofs.Telling.{lists, telling}
use Rattle.opl_walk.proofs.instruction.+items.Goals as goal

pub walk_block-returns : goal.walk_block-returns
walk_block-returns g t c = grind (arith, block_marks, telling)

pub walk_item-returns-in-Block : goal.walk_item-returns-in-Block
walk_item-returns-in-Block g t c = grind (arith, item_marks, telling)

pub walk_item-returns-in-Precedes : goal.walk_item-returns-in-Precedes
walk_item-returns-in-Precedes g t c = grind (arith, item_marks, telling)

pub walk_item-returns-in-Requires : goal.walk_item-returns-in-Requires
walk_item-returns-in-Requires g t c = grind (arith, item_marks, telling)

pub walk_item-returns-in-Constraint : goal.walk_item-returns-in-Constraint
walk_item-returns-in-Constraint g t c = grind (arith, item_marks, telling)

pub walk_items-loop-item-init : goal.walk_items-loop-item-init
walk_items-loop-item-init g t c = grind (arith, items_marks, telling, lists)

pub walk_items-loop-item-preserved : goal.walk_items-loop-item-preserved
walk_items-loop-item-preserved g t c = grind (arith, items_marks, telling, lists)

pub walk_items-returns-in-Empty : goal.walk_items-returns-in-Empty
walk_items-returns-in-Empty g t c = grind (arith, items_marks, telling, lists)

pub walk_item-returns-in-ForAll : goal.walk_item-returns-in-ForAll
walk_item-returns-in-ForAll g t c = grind (arith, item_marks, telling)

pub walk_item-returns-after-fails : goal.walk_item-returns-after-fails
walk_item-returns-after-fails g t c = grind (arith, item_marks, telling)

pub walk_items-returns-then-is_closed : goal.walk_items-returns-then-is_closed
walk_items-returns-then-is_closed g t c = grind (arith, items_marks, telling, lists)

pub walk_items-returns-else-is_closed : goal.walk_items-returns-else-is_closed
walk_items-returns-else-is_closed g t c = grind (arith, items_marks, telling, lists)
