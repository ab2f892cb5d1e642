-- Whether decision variables stand in items only where they may: in their conditions as numbers, names and truths, in no set of parameters
-- and in no condition of `forall` and `if`. Typing rules out all else.
use Rattle.std.specs.Prelude.{Bool, true, not, ◌&&◌, List, ◌∷◌, Option, Some, None}
use Rattle.std.specs.List.{list_all}
use Rattle.opl_tree.specs.declared.instruction.BlockTree.{BlockTree}
use Rattle.opl_tree.specs.declared.instruction.InstrTree.{InstrTree}
use Rattle.opl_tree.specs.declared.instruction.InstrTree.TheVariants as instr
use Rattle.opl_tree.specs.declared.instruction.ItemTree.TheOpen.{ItemTree-F, ItemsTree-F, BlockTree-F}
use Rattle.opl_tree.specs.declared.instruction.ItemTree.TheFolds.{fold-BlockTree}
use Rattle.opl_term.specs.declared.term.ParamsTerm.{ParamsTerm}
use Rattle.opl_term.specs.Terms.{expr_term, params_term}
use Rattle.opl_meaning.specs.declared.variable.VariableItem.{VariableItem}
use Rattle.opl_meaning.specs.Runs.{Names, group_use}
use Rattle.opl_draft.specs.Unrolled.{has_no_variable, is_clean, is_mentioned}

abbrev pub all_clean : List Bool → Bool
all_clean items = list_all (λ b. b) items

abbrev pub or_clean : Option Bool → Bool
or_clean None = true
or_clean (Some b) = b

-- with these decision variables, which have these names
module _ (items : List VariableItem) (names : Names) where
  -- groups, with or without a condition, that name no variable
  abbrev pub are_data : ParamsTerm → Bool
  are_data params = list_all (λ g. not (group_use names g)) params.groups && has_no_variable items names params.condition

  abbrev pub item_layer : ItemTree-F Bool Bool Bool → Bool
  item_layer (ItemTree-F.Block inner) = inner
  item_layer (ItemTree-F.ForAll at params body) = are_data (params_term params) && body
  item_layer (ItemTree-F.If at condition holds fails) = not (is_mentioned items names (expr_term condition)) && (holds && or_clean fails)
  item_layer (ItemTree-F.Precedes at first second) = true
  item_layer (ItemTree-F.Requires t) = true
  item_layer (ItemTree-F.Constraint t) = is_clean items names (expr_term t)

  abbrev pub items_layer : ItemsTree-F Bool Bool Bool → Bool
  items_layer (ItemsTree-F.Empty at) = true
  items_layer (ItemsTree-F.Several at first rest is_closed) = all_clean (first ∷ rest)

  abbrev pub block_layer : BlockTree-F Bool Bool Bool → Bool
  block_layer t = t.items

  -- a block
  unfoldable pub is_clean_block : BlockTree → Bool
  is_clean_block = fold-BlockTree Bool Bool Bool item_layer items_layer block_layer

  -- a model's instruction
  abbrev pub is_clean_instr : InstrTree → Bool
  is_clean_instr (instr.Solve at block) = is_clean_block block
  is_clean_instr (instr.Optimize at optimum objective block) = is_clean_block block
