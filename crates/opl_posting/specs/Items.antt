-- The instances of items, one by one.
use Rattle.opl_tree.specs.declared.instruction.ItemTree.{ItemTree}
use Rattle.opl_tree.specs.declared.instruction.ItemsTree.{ItemsTree}
use Rattle.opl_tree.specs.declared.instruction.ItemTree.TheFolds.{fold-ItemTree, fold-ItemsTree}
use Rattle.opl_draft.specs.Instances.{Instances, block_layer, item_layer, items_layer}

-- the instances of an item, and of a list of items
unfoldable pub item_instances : ItemTree → Instances
item_instances = fold-ItemTree Instances Instances Instances item_layer items_layer block_layer

unfoldable pub items_instances : ItemsTree → Instances
items_instances = fold-ItemsTree Instances Instances Instances item_layer items_layer block_layer
