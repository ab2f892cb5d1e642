-- Where items have types, parameters of `forall` and conditions of `if` name no decision variable.
use Rattle.std.proofs.Common.{◌≡◌, Bool, true, false, ◌&&◌, not, List, [], ◌∷◌, ◌++◌, map, Option, None, Some, Ok, Err, refl, sym, subst}
use Rattle.opl_tree.specs.declared.expression.ExprTree.{ExprTree}
use Rattle.opl_tree.specs.declared.instruction.BlockTree.{BlockTree}
use Rattle.opl_tree.specs.declared.instruction.InstrTree.{InstrTree}
use Rattle.opl_tree.specs.declared.instruction.InstrTree.TheVariants as instrs
use Rattle.opl_tree.specs.declared.instruction.ItemTree.{ItemTree}
use Rattle.opl_tree.specs.declared.instruction.ItemTree.TheFolds.{fold-roll-ItemTree, fold-roll-ItemsTree, fold-roll-BlockTree, ind-BlockTree, map-ItemTree, map-ItemsTree, map-BlockTree}
use Rattle.opl_tree.specs.declared.instruction.ItemTree.TheOpen.{ItemTree-F, ItemsTree-F, BlockTree-F}
use Rattle.opl_tree.specs.declared.instruction.ItemTree.TheViews.{roll-ItemTree, roll-ItemsTree, roll-BlockTree}
use Rattle.opl_tree.specs.declared.instruction.ItemsTree.{ItemsTree}
use Rattle.opl_type_rules.specs.Types.{Sort, is_number, is_truth}
use Rattle.opl_type_rules.specs.Scope.{Scope, Text, and_then}
use Rattle.opl_type_rules.specs.Forms.{form_expr, form_params}
use Rattle.opl_type_rules.specs.Expressions.{used, typing}
use Rattle.opl_type_rules.specs.Expressions.Need.{data_alone, nothing}
use Rattle.opl_item_types.specs.Items.{Looked, each, if_written, condition, item_layer, items_layer, block_layer, item, items, block, instr}
use Rattle.opl_clean.specs.Items.{all_data, item_data, items_data, block_data, is_data_item, are_data_items, is_data_block, is_data_instr}
use Rattle.opl_clean.specs.Laws.{ItemsNameNone}
use Rattle.opl_clean.specs.Mentions.{mentions, KeepsVariables}
use Rattle.opl_clean.proofs.Decided.{data-of, params-typed, typed}
use Rattle.opl_clean.proofs.Lawful.{Holds, always, at_ok, both, not_false, ok, then}

-- one layer of each, over trees
abbrev item_of : ItemTree-F ItemTree ItemsTree BlockTree → Looked
item_of x = item_layer (map-ItemTree ItemTree ItemsTree BlockTree Looked Looked Looked item items block x)

abbrev items_of : ItemsTree-F ItemTree ItemsTree BlockTree → Looked
items_of x = items_layer (map-ItemsTree ItemTree ItemsTree BlockTree Looked Looked Looked item items block x)

abbrev block_of : BlockTree-F ItemTree ItemsTree BlockTree → Looked
block_of x = block_layer (map-BlockTree ItemTree ItemsTree BlockTree Looked Looked Looked item items block x)

item-roll : (x : ItemTree-F ItemTree ItemsTree BlockTree) → item (roll-ItemTree x) ≡ item_of x
unfolding item items block
item-roll x = fold-roll-ItemTree Looked Looked Looked item_layer items_layer block_layer x

items-roll : (x : ItemsTree-F ItemTree ItemsTree BlockTree) → items (roll-ItemsTree x) ≡ items_of x
unfolding item items block
items-roll x = fold-roll-ItemsTree Looked Looked Looked item_layer items_layer block_layer x

block-roll : (x : BlockTree-F ItemTree ItemsTree BlockTree) → block (roll-BlockTree x) ≡ block_of x
unfolding item items block
block-roll x = fold-roll-BlockTree Looked Looked Looked item_layer items_layer block_layer x

module _ (names : List Text) where
  abbrev data_of_item : ItemTree-F ItemTree ItemsTree BlockTree → Bool
  data_of_item x = item_data names (map-ItemTree ItemTree ItemsTree BlockTree Bool Bool Bool (is_data_item names) (are_data_items names) (is_data_block names) x)

  abbrev data_of_items : ItemsTree-F ItemTree ItemsTree BlockTree → Bool
  data_of_items x = items_data names (map-ItemsTree ItemTree ItemsTree BlockTree Bool Bool Bool (is_data_item names) (are_data_items names) (is_data_block names) x)

  abbrev data_of_block : BlockTree-F ItemTree ItemsTree BlockTree → Bool
  data_of_block x = block_data names (map-BlockTree ItemTree ItemsTree BlockTree Bool Bool Bool (is_data_item names) (are_data_items names) (is_data_block names) x)

  item-data-roll : (x : ItemTree-F ItemTree ItemsTree BlockTree) → is_data_item names (roll-ItemTree x) ≡ data_of_item x
  unfolding is_data_item are_data_items is_data_block
  item-data-roll x = fold-roll-ItemTree Bool Bool Bool (item_data names) (items_data names) (block_data names) x

  items-data-roll : (x : ItemsTree-F ItemTree ItemsTree BlockTree) → are_data_items names (roll-ItemsTree x) ≡ data_of_items x
  unfolding is_data_item are_data_items is_data_block
  items-data-roll x = fold-roll-ItemsTree Bool Bool Bool (item_data names) (items_data names) (block_data names) x

  block-data-roll : (x : BlockTree-F ItemTree ItemsTree BlockTree) → is_data_block names (roll-BlockTree x) ≡ data_of_block x
  unfolding is_data_item are_data_items is_data_block
  block-data-roll x = fold-roll-BlockTree Bool Bool Bool (item_data names) (items_data names) (block_data names) x

  -- where there are types, this is true
  abbrev Told : Looked → Bool → Type 0
  Told l b = (sc : Scope) → KeepsVariables names sc → Holds {A = List Sort} (λ ks. b ≡ true) (l sc)

  told_true : (l : Looked) → Told l true
  told_true l sc k = always _ (l sc) (λ ks. refl)

  told_last : (l : Looked) (a : Bool) → Told l a → Told (each (l ∷ [])) a
  told_last l a h sc k = then _ _ _ _ (h sc k) (λ first e. ok _ _ e)

  told_more : (l : Looked) (ls : List Looked) (a b : Bool) → Told l a → Told (each ls) b → Told (each (l ∷ ls)) (a && b)
  told_more l ls a b h g sc k = then _ _ _ _ (h sc k) (λ first e. then _ _ _ _ (g sc k) (λ rest f. ok _ _ (both a b e f)))

  told_condition : (t : ExprTree) → Told (condition data_alone t) (not (mentions names (form_expr t)))
  told_condition t sc k = then _ _ _ _ (data-of names (form_expr t) is_truth (typing sc (form_expr t)) (typed names (form_expr t) sc k)) (λ n h. ok _ _ (not_false _ h))

  -- what is known of a part
  abbrev Item : Type 0
  Item = (t : ItemTree) × Told (item t) (is_data_item names t)

  abbrev Items : Type 0
  Items = (t : ItemsTree) × Told (items t) (are_data_items names t)

  abbrev Block : Type 0
  Block = (t : BlockTree) × Told (block t) (is_data_block names t)

  abbrev item_inner : ItemTree-F Item Items Block → ItemTree-F ItemTree ItemsTree BlockTree
  item_inner = map-ItemTree Item Items Block ItemTree ItemsTree BlockTree (λ e. e.0) (λ e. e.0) (λ e. e.0)

  abbrev items_inner : ItemsTree-F Item Items Block → ItemsTree-F ItemTree ItemsTree BlockTree
  items_inner = map-ItemsTree Item Items Block ItemTree ItemsTree BlockTree (λ e. e.0) (λ e. e.0) (λ e. e.0)

  abbrev block_inner : BlockTree-F Item Items Block → BlockTree-F ItemTree ItemsTree BlockTree
  block_inner = map-BlockTree Item Items Block ItemTree ItemsTree BlockTree (λ e. e.0) (λ e. e.0) (λ e. e.0)

  told_each : (es : List Item) → Told (each (map item (map (λ e. e.0) es))) (all_data (map (is_data_item names) (map (λ e. e.0) es)))
  told_each [] sc k = ok _ _ refl
  told_each (e ∷ es) sc k = told_more (item e.0) (map item (map (λ d. d.0) es)) _ _ e.1 (told_each es) sc k

  told_item : (y : ItemTree-F Item Items Block) → Told (item_of (item_inner y)) (data_of_item (item_inner y))
  told_item (ItemTree-F.Block inner) = inner.1
  told_item (ItemTree-F.ForAll at params body) = λ sc k.
      then _ _ _ _ (params-typed names (form_params params) sc k) (λ o w. then _ _ _ _ (body.1 o.scope w.1) (λ rest h. ok _ _ (both _ _ (not_false _ w.0) h)))
  told_item (ItemTree-F.If at test holds None) =
      told_more (condition data_alone test) (items holds.0 ∷ if_written None ∷ []) _ _ (told_condition test) (told_more (items holds.0) (if_written None ∷ []) _ _ holds.1 (told_last (if_written None) true (told_true (if_written None))))
  told_item (ItemTree-F.If at test holds (Some fails)) =
      told_more (condition data_alone test) (items holds.0 ∷ items fails.0 ∷ []) _ _ (told_condition test) (told_more (items holds.0) (items fails.0 ∷ []) _ _ holds.1 (told_last (items fails.0) _ fails.1))
  told_item (ItemTree-F.Precedes at first second) = told_true _
  told_item (ItemTree-F.Requires t) = told_true _
  told_item (ItemTree-F.Constraint t) = told_true _

  told_items : (y : ItemsTree-F Item Items Block) → Told (items_of (items_inner y)) (data_of_items (items_inner y))
  told_items (ItemsTree-F.Empty at) = told_true _
  told_items (ItemsTree-F.Several at first rest is_closed) = told_each (first ∷ rest)

  told_in_block : (y : BlockTree-F Item Items Block) → Told (block_of (block_inner y)) (data_of_block (block_inner y))
  told_in_block y = y.items.1

  -- a tree whose one layer, over parts of which this is known, is told
  told_layer : {F : Type 0} (layer : F → Looked) (flag : F → Bool) (l : Looked) (b : Bool) (x y : F) → l ≡ layer x → b ≡ flag x → y ≡ x → Told (layer y) (flag y) → Told l b
  told_layer layer flag l b x y p q is h = subst (λ m. Told m b) (sym p) (subst (λ c. Told (layer x) c) (sym q) (subst (λ z. Told (layer z) (flag z)) is h))

  told_block : (t : BlockTree) → Told (block t) (is_data_block names t)
  told_block = ind-BlockTree (λ t. Told (item t) (is_data_item names t)) (λ t. Told (items t) (are_data_items names t)) (λ t. Told (block t) (is_data_block names t))
      (λ x y is. told_layer item_of data_of_item _ _ x _ (item-roll x) (item-data-roll x) is (told_item y))
      (λ x y is. told_layer items_of data_of_items _ _ x _ (items-roll x) (items-data-roll x) is (told_items y))
      (λ x y is. told_layer block_of data_of_block _ _ x _ (block-roll x) (block-data-roll x) is (told_in_block y))

  told_instr : (t : InstrTree) → Told (instr t) (is_data_instr names t)
  told_instr (instrs.Solve at t) sc k = told_block t sc k
  told_instr (instrs.Optimize at optimum objective t) sc k =
      then (λ n. true ≡ true) _ _ _ (always (λ n. true ≡ true) (and_then (typing sc (form_expr objective)) (used nothing is_number)) (λ n. refl)) (λ n u. then _ _ _ _ (told_block t sc k) (λ rest h. ok _ _ h))

pub items_name_none : ItemsNameNone
items_name_none names sc t ks k h = at_ok (λ ns. is_data_instr names t ≡ true) (instr t sc) ks h (told_instr names t sc k)
