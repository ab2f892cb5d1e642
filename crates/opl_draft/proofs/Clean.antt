-- The instances of clean items are clean.
use Rattle.std.proofs.Common.{◌≡◌, ◌&&◌, Bool, true, false, cond, List, [], ◌∷◌, ◌++◌, map, not, Option, None, Some, Ok, Err, refl, sym, subst, ◌∙◌}
use Rattle.std.specs.List.{flat_map, list_all}
use Rattle.std.proofs.lemmas.Bool.{and_parts}
use Rattle.std.proofs.lemmas.List.Folds.{list_all-append}
use Rattle.opl_tree.specs.declared.instruction.BlockTree.{BlockTree}
use Rattle.opl_tree.specs.declared.instruction.InstrTree.TheVariants as instrs
use Rattle.opl_tree.specs.declared.instruction.ItemTree.{ItemTree}
use Rattle.opl_tree.specs.declared.instruction.ItemTree.TheFolds.{fold-ItemTree, fold-ItemsTree, fold-roll-ItemTree, fold-roll-ItemsTree, fold-roll-BlockTree, ind-BlockTree, map-ItemTree, map-ItemsTree, map-BlockTree}
use Rattle.opl_tree.specs.declared.instruction.ItemTree.TheOpen.{ItemTree-F, ItemsTree-F, BlockTree-F}
use Rattle.opl_tree.specs.declared.instruction.ItemTree.TheViews.{roll-ItemTree, roll-ItemsTree, roll-BlockTree}
use Rattle.opl_tree.specs.declared.instruction.ItemsTree.{ItemsTree}
use Rattle.opl_term.specs.declared.term.ParamsTerm.{ParamsTerm}
use Rattle.opl_term.specs.declared.term.Term.{Term}
use Rattle.opl_term.specs.Terms.{expr_term, params_term}
use Rattle.opl_eval.specs.Evaluation.{Environment, Found, Group, choices, declaration_of, elements, eval, group_meaning, is_true, with_parameters}
use Rattle.opl_meaning.specs.declared.variable.VariableItem.{VariableItem}
use Rattle.opl_meaning.specs.Runs.{Names}
use Rattle.opl_draft.specs.Choices.{branched, or_stop, under_groups, where_true}
use Rattle.opl_draft.specs.Clean as cleaning
use Rattle.opl_draft.specs.Clean.{all_clean, are_data, is_clean_block, is_clean_instr, or_clean}
use Rattle.opl_draft.specs.Instances as instancing
use Rattle.opl_draft.specs.Instances.{Instance, Instances, block_instances, instances, is_clean_instance}
use Rattle.opl_draft.specs.Instances.Instance.{posted, stopped}
use Rattle.opl_draft.specs.Laws.{InstancesClean}
use Rattle.opl_draft.specs.Unrolled.{is_mentioned}

-- ---- what the parts of a block come to

unfoldable item_instances : ItemTree → Instances
item_instances = fold-ItemTree Instances Instances Instances instancing.item_layer instancing.items_layer instancing.block_layer

unfoldable items_instances : ItemsTree → Instances
items_instances = fold-ItemsTree Instances Instances Instances instancing.item_layer instancing.items_layer instancing.block_layer

module _ (items : List VariableItem) (names : Names) where
  unfoldable item_clean : ItemTree → Bool
  item_clean = fold-ItemTree Bool Bool Bool (cleaning.item_layer items names) (cleaning.items_layer items names) (cleaning.block_layer items names)

  unfoldable items_clean : ItemsTree → Bool
  items_clean = fold-ItemsTree Bool Bool Bool (cleaning.item_layer items names) (cleaning.items_layer items names) (cleaning.block_layer items names)

  -- ---- lists of instances

  abbrev Clean : List Instance → Type 0
  Clean is = list_all (is_clean_instance items names) is ≡ true

  both : (a b : Bool) → a ≡ true → b ≡ true → (a && b) ≡ true
  both true b h k = k
  both false b h k = h

  append-clean : (is js : List Instance) → Clean is → Clean js → Clean (is ++ js)
  append-clean is js h k =
      list_all-append (is_clean_instance items names) is js ∙ both (list_all (is_clean_instance items names) is) (list_all (is_clean_instance items names) js) h k

  each-clean : {A : Type 0} (f : A → List Instance) → ((a : A) → Clean (f a)) → (all : List A) → Clean (flat_map f all)
  each-clean f h [] = refl
  each-clean f h (a ∷ others) = append-clean (f a) (flat_map f others) (h a) (each-clean f h others)

  stop-clean : {A : Type 0} (r : Found A) (next : A → List Instance) → ((a : A) → Clean (next a)) → Clean (or_stop stopped r next)
  stop-clean (Ok a) next h = h a
  stop-clean (Err fault) next h = refl

  cond-clean : (b : Bool) (is js : List Instance) → Clean is → Clean js → Clean (cond b is js)
  cond-clean true is js h k = h
  cond-clean false is js h k = k

  branched-clean : (condition : Term) (holds fails : Instances) → ((env : Environment) → Clean (holds env)) → ((env : Environment) → Clean (fails env)) →
      (env : Environment) → Clean (branched stopped condition holds fails env)
  branched-clean condition holds fails h k env = stop-clean (eval condition env) (λ v. cond (is_true v) (holds env) (fails env)) (λ v. cond-clean (is_true v) (holds env) (fails env) (h env) (k env))

  where-clean : (condition : Option Term) (inner : Instances) → ((env : Environment) → Clean (inner env)) → (env : Environment) → Clean (where_true stopped condition inner env)
  where-clean None inner h env = h env
  where-clean (Some c) inner h env = branched-clean c inner (λ env. []) h (λ env. refl) env

  groups-clean : (gs : List Group) (inner : Instances) → ((env : Environment) → Clean (inner env)) → (env : Environment) → Clean (under_groups stopped gs inner env)
  groups-clean [] inner h env = h env
  groups-clean (g ∷ gs) inner h env =
      stop-clean (g.over.value env) (λ v. flat_map (λ ps. under_groups stopped gs inner (with_parameters ps env)) (choices g (elements (declaration_of (g.over.item env)) v)))
      (λ v. each-clean (λ ps. under_groups stopped gs inner (with_parameters ps env)) (λ ps. groups-clean gs inner h (with_parameters ps env)) (choices g (elements (declaration_of (g.over.item env)) v)))

  -- ---- items

  -- where what is said is clean, the instances are
  abbrev Gives : Bool → Instances → Type 0
  Gives b is = b ≡ true → (env : Environment) → Clean (is env)

  abbrev InItem : Type 0
  InItem = (t : ItemTree) × Gives (item_clean t) (item_instances t)

  abbrev InItems : Type 0
  InItems = (t : ItemsTree) × Gives (items_clean t) (items_instances t)

  abbrev InBlock : Type 0
  InBlock = (t : BlockTree) × Gives (is_clean_block items names t) (block_instances t)

  abbrev item_inner : ItemTree-F InItem InItems InBlock → ItemTree-F ItemTree ItemsTree BlockTree
  item_inner = map-ItemTree InItem InItems InBlock ItemTree ItemsTree BlockTree (λ e. e.0) (λ e. e.0) (λ e. e.0)

  abbrev items_inner : ItemsTree-F InItem InItems InBlock → ItemsTree-F ItemTree ItemsTree BlockTree
  items_inner = map-ItemsTree InItem InItems InBlock ItemTree ItemsTree BlockTree (λ e. e.0) (λ e. e.0) (λ e. e.0)

  abbrev block_inner : BlockTree-F InItem InItems InBlock → BlockTree-F ItemTree ItemsTree BlockTree
  block_inner = map-BlockTree InItem InItems InBlock ItemTree ItemsTree BlockTree (λ e. e.0) (λ e. e.0) (λ e. e.0)

  -- one layer of each
  abbrev item_clean_of : ItemTree-F ItemTree ItemsTree BlockTree → Bool
  item_clean_of x = cleaning.item_layer items names (map-ItemTree ItemTree ItemsTree BlockTree Bool Bool Bool item_clean items_clean (is_clean_block items names) x)

  abbrev items_clean_of : ItemsTree-F ItemTree ItemsTree BlockTree → Bool
  items_clean_of x = cleaning.items_layer items names (map-ItemsTree ItemTree ItemsTree BlockTree Bool Bool Bool item_clean items_clean (is_clean_block items names) x)

  abbrev block_clean_of : BlockTree-F ItemTree ItemsTree BlockTree → Bool
  block_clean_of x = cleaning.block_layer items names (map-BlockTree ItemTree ItemsTree BlockTree Bool Bool Bool item_clean items_clean (is_clean_block items names) x)

  abbrev item_instances_of : ItemTree-F ItemTree ItemsTree BlockTree → Instances
  item_instances_of x = instancing.item_layer (map-ItemTree ItemTree ItemsTree BlockTree Instances Instances Instances item_instances items_instances block_instances x)

  abbrev items_instances_of : ItemsTree-F ItemTree ItemsTree BlockTree → Instances
  items_instances_of x = instancing.items_layer (map-ItemsTree ItemTree ItemsTree BlockTree Instances Instances Instances item_instances items_instances block_instances x)

  abbrev block_instances_of : BlockTree-F ItemTree ItemsTree BlockTree → Instances
  block_instances_of x = instancing.block_layer (map-BlockTree ItemTree ItemsTree BlockTree Instances Instances Instances item_instances items_instances block_instances x)

  item_clean-roll : (x : ItemTree-F ItemTree ItemsTree BlockTree) → item_clean (roll-ItemTree x) ≡ item_clean_of x
  unfolding item_clean items_clean is_clean_block
  item_clean-roll x = fold-roll-ItemTree Bool Bool Bool (cleaning.item_layer items names) (cleaning.items_layer items names) (cleaning.block_layer items names) x

  items_clean-roll : (x : ItemsTree-F ItemTree ItemsTree BlockTree) → items_clean (roll-ItemsTree x) ≡ items_clean_of x
  unfolding item_clean items_clean is_clean_block
  items_clean-roll x = fold-roll-ItemsTree Bool Bool Bool (cleaning.item_layer items names) (cleaning.items_layer items names) (cleaning.block_layer items names) x

  block_clean-roll : (x : BlockTree-F ItemTree ItemsTree BlockTree) → is_clean_block items names (roll-BlockTree x) ≡ block_clean_of x
  unfolding item_clean items_clean is_clean_block
  block_clean-roll x = fold-roll-BlockTree Bool Bool Bool (cleaning.item_layer items names) (cleaning.items_layer items names) (cleaning.block_layer items names) x

  item_instances-roll : (x : ItemTree-F ItemTree ItemsTree BlockTree) → item_instances (roll-ItemTree x) ≡ item_instances_of x
  unfolding item_instances items_instances block_instances
  item_instances-roll x = fold-roll-ItemTree Instances Instances Instances instancing.item_layer instancing.items_layer instancing.block_layer x

  items_instances-roll : (x : ItemsTree-F ItemTree ItemsTree BlockTree) → items_instances (roll-ItemsTree x) ≡ items_instances_of x
  unfolding item_instances items_instances block_instances
  items_instances-roll x = fold-roll-ItemsTree Instances Instances Instances instancing.item_layer instancing.items_layer instancing.block_layer x

  block_instances-roll : (x : BlockTree-F ItemTree ItemsTree BlockTree) → block_instances (roll-BlockTree x) ≡ block_instances_of x
  unfolding item_instances items_instances block_instances
  block_instances-roll x = fold-roll-BlockTree Instances Instances Instances instancing.item_layer instancing.items_layer instancing.block_layer x

  item-gives : (y : ItemTree-F InItem InItems InBlock) → Gives (item_clean_of (item_inner y)) (item_instances_of (item_inner y))
  item-gives (ItemTree-F.Block inner) h env = inner.1 h env
  item-gives (ItemTree-F.ForAll at params body) h env =
      let p : ParamsTerm = params_term params in
      let q = and_parts (are_data items names p) (item_clean body.0) h in
      groups-clean (map group_meaning p.groups) (where_true stopped p.condition (item_instances body.0)) (where-clean p.condition (item_instances body.0) (body.1 q.1)) env
  item-gives (ItemTree-F.If at condition holds None) h env =
      let p = and_parts (not (is_mentioned items names (expr_term condition))) (items_clean holds.0 && true) h in
      let q = and_parts (items_clean holds.0) true p.1 in
      branched-clean (expr_term condition) (items_instances holds.0) instancing.nothing (holds.1 q.0) (λ env. refl) env
  item-gives (ItemTree-F.If at condition holds (Some fails)) h env =
      let p = and_parts (not (is_mentioned items names (expr_term condition))) (items_clean holds.0 && items_clean fails.0) h in
      let q = and_parts (items_clean holds.0) (items_clean fails.0) p.1 in
      branched-clean (expr_term condition) (items_instances holds.0) (items_instances fails.0) (holds.1 q.0) (fails.1 q.1) env
  item-gives (ItemTree-F.Precedes at first second) h env = refl
  item-gives (ItemTree-F.Requires t) h env = refl
  item-gives (ItemTree-F.Constraint t) h env = both (cleaning.item_layer items names (ItemTree-F.Constraint t)) true h refl

  several-give : (es : List InItem) → all_clean (map item_clean (map (λ e. e.0) es)) ≡ true → (env : Environment) → Clean (flat_map (λ i. i env) (map item_instances (map (λ e. e.0) es)))
  several-give [] h env = refl
  several-give (e ∷ es) h env =
      let p = and_parts (item_clean e.0) (all_clean (map item_clean (map (λ e. e.0) es))) h in
      append-clean (item_instances e.0 env) (flat_map (λ i. i env) (map item_instances (map (λ e. e.0) es))) (e.1 p.0 env) (several-give es p.1 env)

  items-give : (y : ItemsTree-F InItem InItems InBlock) → Gives (items_clean_of (items_inner y)) (items_instances_of (items_inner y))
  items-give (ItemsTree-F.Empty at) h env = refl
  items-give (ItemsTree-F.Several at first rest is_closed) h env = several-give (first ∷ rest) h env

  inner-gives : (y : BlockTree-F InItem InItems InBlock) → Gives (block_clean_of (block_inner y)) (block_instances_of (block_inner y))
  inner-gives y h env = y.items.1 h env

  -- the same, where both come to this
  known-gives : (a b : Bool) (is js : Instances) → a ≡ b → is ≡ js → Gives b js → Gives a is
  known-gives a b is js e f g h env = subst (λ k. Clean (k env)) (sym f) (g (sym e ∙ h) env)

  block-gives : (t : BlockTree) → Gives (is_clean_block items names t) (block_instances t)
  block-gives = ind-BlockTree (λ t. Gives (item_clean t) (item_instances t)) (λ t. Gives (items_clean t) (items_instances t)) (λ t. Gives (is_clean_block items names t) (block_instances t))
      (λ x y is. known-gives _ _ _ _ (item_clean-roll x) (item_instances-roll x) (subst (λ z. Gives (item_clean_of z) (item_instances_of z)) is (item-gives y)))
      (λ x y is. known-gives _ _ _ _ (items_clean-roll x) (items_instances-roll x) (subst (λ z. Gives (items_clean_of z) (items_instances_of z)) is (items-give y)))
      (λ x y is. known-gives _ _ _ _ (block_clean-roll x) (block_instances-roll x) (subst (λ z. Gives (block_clean_of z) (block_instances_of z)) is (inner-gives y)))

pub instances_clean : InstancesClean
instances_clean items names (instrs.Solve at block) env h = block-gives items names block h env
instances_clean items names (instrs.Optimize at optimum objective block) env h = block-gives items names block h env
