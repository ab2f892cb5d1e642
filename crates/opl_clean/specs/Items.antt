-- Whether decision variables are named in no set and no condition of the parameters of `forall`, and in no condition of `if`.
use Rattle.std.specs.Prelude.{Bool, true, not, ◌&&◌, List, ◌∷◌, Option, Some, None}
use Rattle.std.specs.List.{list_all}
use Rattle.opl_tree.specs.declared.instruction.BlockTree.{BlockTree}
use Rattle.opl_tree.specs.declared.instruction.InstrTree.{InstrTree}
use Rattle.opl_tree.specs.declared.instruction.InstrTree.TheVariants as instrs
use Rattle.opl_tree.specs.declared.instruction.ItemTree.{ItemTree}
use Rattle.opl_tree.specs.declared.instruction.ItemTree.TheOpen.{ItemTree-F, ItemsTree-F, BlockTree-F}
use Rattle.opl_tree.specs.declared.instruction.ItemTree.TheFolds.{fold-ItemTree, fold-ItemsTree, fold-BlockTree}
use Rattle.opl_tree.specs.declared.instruction.ItemsTree.{ItemsTree}
use Rattle.opl_type_rules.specs.Scope.{Text}
use Rattle.opl_type_rules.specs.Forms.{form_expr, form_params}
use Rattle.opl_clean.specs.Mentions.{mentions, params_mention}

abbrev pub all_data : List Bool → Bool
all_data items = list_all (λ b. b) items

abbrev pub or_data : Option Bool → Bool
or_data None = true
or_data (Some b) = b

module _ (names : List Text) where
  abbrev pub item_data : ItemTree-F Bool Bool Bool → Bool
  item_data (ItemTree-F.Block inner) = inner
  item_data (ItemTree-F.ForAll at params body) = not (params_mention names (form_params params)) && body
  item_data (ItemTree-F.If at test holds fails) = not (mentions names (form_expr test)) && (holds && or_data fails)
  item_data (ItemTree-F.Precedes at first second) = true
  item_data (ItemTree-F.Requires t) = true
  item_data (ItemTree-F.Constraint t) = true

  abbrev pub items_data : ItemsTree-F Bool Bool Bool → Bool
  items_data (ItemsTree-F.Empty at) = true
  items_data (ItemsTree-F.Several at first rest is_closed) = all_data (first ∷ rest)

  abbrev pub block_data : BlockTree-F Bool Bool Bool → Bool
  block_data t = t.items

  unfoldable pub is_data_item : ItemTree → Bool
  is_data_item = fold-ItemTree Bool Bool Bool item_data items_data block_data

  unfoldable pub are_data_items : ItemsTree → Bool
  are_data_items = fold-ItemsTree Bool Bool Bool item_data items_data block_data

  unfoldable pub is_data_block : BlockTree → Bool
  is_data_block = fold-BlockTree Bool Bool Bool item_data items_data block_data

  -- a model's instruction
  abbrev pub is_data_instr : InstrTree → Bool
  is_data_instr (instrs.Solve at block) = is_data_block block
  is_data_instr (instrs.Optimize at optimum objective block) = is_data_block block
