-- What is asked of blocks, asked of items and lists of items.
use Rattle.std.specs.Prelude.{ℕ, Bool, List, Option}
use Rattle.opl_tree.specs.declared.instruction.ItemTree.{ItemTree}
use Rattle.opl_tree.specs.declared.instruction.ItemsTree.{ItemsTree}
use Rattle.opl_tree.specs.declared.instruction.ItemTree.TheFolds.{fold-ItemTree, fold-ItemsTree}
use Rattle.opl_meaning.specs.declared.variable.VariableItem.{VariableItem}
use Rattle.opl_meaning.specs.Runs.{Names}
use Rattle.opl_draft.specs.Clean as cleaning
use Rattle.opl_runs.specs.Runs as runs

-- the place of the first form that does not run, in an item and in a list of items
unfoldable pub item_unrun : ItemTree → Option ℕ
item_unrun = fold-ItemTree (Option ℕ) (Option ℕ) (Option ℕ) runs.item_layer runs.items_layer runs.block_layer

unfoldable pub items_unrun : ItemsTree → Option ℕ
items_unrun = fold-ItemsTree (Option ℕ) (Option ℕ) (Option ℕ) runs.item_layer runs.items_layer runs.block_layer

-- with these decision variables, which have these names
module _ (items : List VariableItem) (names : Names) where
  -- whether variables stand in an item, and in a list of items, only where they may
  unfoldable pub item_clean : ItemTree → Bool
  item_clean = fold-ItemTree Bool Bool Bool (cleaning.item_layer items names) (cleaning.items_layer items names) (cleaning.block_layer items names)

  unfoldable pub items_clean : ItemsTree → Bool
  items_clean = fold-ItemsTree Bool Bool Bool (cleaning.item_layer items names) (cleaning.items_layer items names) (cleaning.block_layer items names)
