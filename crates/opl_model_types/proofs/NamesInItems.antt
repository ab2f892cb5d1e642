-- Each name in an item that typing accepts has exactly one visible declaration.
use Rattle.std.proofs.Common.{◌≡◌, ℕ, List, [], ◌∷◌, map, Option, None, Some, Ok, sym, subst}
use Rattle.opl_tree.specs.declared.expression.AddTree.{AddTree}
use Rattle.opl_tree.specs.declared.expression.ExprTree.{ExprTree}
use Rattle.opl_tree.specs.declared.expression.NameTree.{NameTree}
use Rattle.opl_tree.specs.declared.expression.ParamsTree.{ParamsTree}
use Rattle.opl_tree.specs.declared.expression.PostTree.{PostTree}
use Rattle.opl_tree.specs.declared.expression.SubscriptsTree.{SubscriptsTree}
use Rattle.opl_tree.specs.declared.instruction.BlockTree.{BlockTree}
use Rattle.opl_tree.specs.declared.instruction.ItemTree.{ItemTree}
use Rattle.opl_tree.specs.declared.instruction.ItemTree.TheFolds.{fold-roll-ItemTree, fold-roll-ItemsTree, fold-roll-BlockTree, ind-BlockTree, map-ItemTree, map-ItemsTree, map-BlockTree}
use Rattle.opl_tree.specs.declared.instruction.ItemTree.TheOpen.{ItemTree-F, ItemsTree-F, BlockTree-F}
use Rattle.opl_tree.specs.declared.instruction.ItemTree.TheViews.{roll-ItemTree, roll-ItemsTree, roll-BlockTree}
use Rattle.opl_tree.specs.declared.instruction.ItemsTree.{ItemsTree}
use Rattle.opl_tree.specs.declared.instruction.RequiresTree.{RequiresTree}
use Rattle.opl_type_rules.specs.Types.{Sort, is_truth}
use Rattle.opl_type_rules.specs.Scope.{and_then, Scope, Thing, found, lookup}
use Rattle.opl_type_rules.specs.Forms.{form_expr, form_post, form_subscripts, form_params, forms_of}
use Rattle.opl_type_rules.specs.Expressions.{Node, Need, used, part, typing, open_params}
use Rattle.opl_type_rules.specs.Expressions.Need.{nothing, data_alone}
use Rattle.opl_expression_types.specs.Numbers.{maybe_number}
use Rattle.opl_item_types.specs.Items.{Looked, each, if_written, within, condition, precedes, known, subscript_nodes, requires, item, items, block}
use Rattle.opl_model_types.specs.Uses.{Uses, together, demand_uses, subscript_uses, requires_uses, item_uses_layer, items_uses_layer, block_uses_layer, item_uses, items_uses, block_uses}
use Rattle.opl_model_types.specs.Uses.Uses.{no_uses, expression, both, behind}
use Rattle.opl_model_types.specs.Laws.{IsDeclaredOnce, Declared, UsesDeclared}
use Rattle.opl_model_types.proofs.Once.{went, ok-and, found-declared}
use Rattle.opl_model_types.proofs.EachOnce.{parts_declared, params_declared}
use Rattle.opl_model_types.proofs.ParamsOnce.{params_declare_once}
use Rattle.opl_model_types.proofs.PureItems.{item_of, items_of, block_of, item-roll, items-roll, block-roll}
use Rattle.opl_model_types.proofs.NamesInDecls.{used-names, maybe-names}

-- where what is looked at is accepted, each name that is used is declared
abbrev pub Names : Looked → Uses → Type 0
Names l u = (sc : Scope) (ks : List Sort) → IsDeclaredOnce sc → l sc ≡ Ok ks → UsesDeclared sc u

-- ---- one after the other

pub names-none : Names (each []) no_uses
names-none sc ks once h = tt

pub names-more : (l : Looked) (ls : List Looked) (u v : Uses) → Names l u → Names (each ls) v → Names (each (l ∷ ls)) (both u v)
names-more l ls u v first rest sc ks once h =
    let w = went (l sc) _ ks h in
    let x = went (each ls sc) _ ks w.2 in
    (first sc w.0 once w.1, rest sc x.0 once x.1)

pub names-last : (l : Looked) (u : Uses) → Names l u → Names (each (l ∷ [])) u
names-last l u last sc ks once h = let w = went (l sc) _ ks h in last sc w.0 once w.1

pub names-two : (f g : Looked) (u v : Uses) → Names f u → Names g v → Names (each (f ∷ g ∷ [])) (both u v)
names-two f g u v first second = names-more f (g ∷ []) u v first (names-last g v second)

pub names-three : (f g l : Looked) (u v w : Uses) → Names f u → Names g v → Names l w → Names (each (f ∷ g ∷ l ∷ [])) (together (u ∷ v ∷ w ∷ []))
names-three f g l u v w first second third =
    names-more f (g ∷ l ∷ []) u (together (v ∷ w ∷ [])) first (names-more g (l ∷ []) v (together (w ∷ [])) second (names-more l [] w no_uses third names-none))

pub names-each : {T : Type 0} (f : T → Looked) (g : T → Uses) (es : List ((t : T) × Names (f t) (g t))) → Names (each (map f (map (λ e. e.0) es))) (together (map g (map (λ e. e.0) es)))
names-each f g [] = names-none
names-each f g (e ∷ es) = names-more (f e.0) (map f (map (λ e. e.0) es)) (g e.0) (together (map g (map (λ e. e.0) es))) e.1 (names-each f g es)

pub names-within : (need : Need) (params : ParamsTree) (l : Looked) (u : Uses) → Names l u → Names (within need params l) (behind need (form_params params) u)
names-within need params l u inner sc ks once h =
    let w = went (open_params need sc (form_params params)) _ ks h in
    let x = went (l w.0.scope) _ ks w.2 in (
      params_declared (form_params params) need sc w.0 once w.1,
      ok-and (open_params need sc (form_params params)) w.0 (λ o. UsesDeclared o.scope u) w.1 (inner w.0.scope x.0 (params_declare_once need sc (form_params params) w.0 once w.1) x.1),
    )

pub names-condition : (need : Need) (t : ExprTree) → Names (condition need t) (expression (form_expr t))
names-condition need t sc ks once h = used-names sc (form_expr t) (used need is_truth) _ ks once h

pub names-precedes : (at : ℕ) (first second : PostTree) → Names (precedes at first second) (both (expression (form_post first)) (expression (form_post second)))
names-precedes at first second sc ks once h =
    let w = went (and_then (typing sc (form_post first)) part) _ ks h in
    (used-names sc (form_post first) part _ ks once h, used-names sc (form_post second) part _ ks once w.2)

-- ---- resources

known-found : (name : NameTree) (o : Option Thing) (thing : Thing) → known name o ≡ Ok thing → o ≡ Some thing
known-found name None thing h = absurd (cc)
known-found name (Some t) thing h = cc

resource-name : (sc : Scope) (name : NameTree) (thing : Thing) → IsDeclaredOnce sc → known name (lookup sc name.text) ≡ Ok thing → Declared sc name.text
unfolding lookup
resource-name sc name thing once h = (found-declared sc name.text thing once (known-found name (found name.text sc.entries) thing h)).0

demand-names : (sc : Scope) (t : Option AddTree) (ks : List Sort) → IsDeclaredOnce sc → maybe_number sc t ≡ Ok ks → UsesDeclared sc (demand_uses t)
demand-names sc None ks once h = tt
demand-names sc (Some t) ks once h = maybe-names sc (Some t) ks once h

subscript-names : (sc : Scope) (t : Option SubscriptsTree) (ns : List Node) → IsDeclaredOnce sc → subscript_nodes sc t ≡ Ok ns → UsesDeclared sc (subscript_uses t)
subscript-names sc None ns once h = tt
subscript-names sc (Some t) ns once h = parts_declared (forms_of (form_subscripts t)) sc ns once h

names-requires : (t : RequiresTree) → Names (requires t) (requires_uses t)
names-requires t sc ks once h =
    let w = went (and_then (typing sc (form_post t.activity)) part) _ ks h in
    let x = went (maybe_number sc t.demand) _ ks w.2 in
    let y = went (known t.resource (lookup sc t.resource.text)) _ ks x.2 in
    let z = went (subscript_nodes sc t.subscripts) _ ks y.2 in
    (used-names sc (form_post t.activity) part _ ks once h, (demand-names sc t.demand x.0 once x.1, (resource-name sc t.resource y.0 once y.1, (subscript-names sc t.subscripts z.0 once z.1, tt))))

-- ---- items

-- what is known of the items inside an item
abbrev InItem : Type 0
InItem = (t : ItemTree) × Names (item t) (item_uses t)

abbrev InItems : Type 0
InItems = (t : ItemsTree) × Names (items t) (items_uses t)

abbrev InBlock : Type 0
InBlock = (t : BlockTree) × Names (block t) (block_uses t)

abbrev item_inner : ItemTree-F InItem InItems InBlock → ItemTree-F ItemTree ItemsTree BlockTree
item_inner = map-ItemTree InItem InItems InBlock ItemTree ItemsTree BlockTree (λ e. e.0) (λ e. e.0) (λ e. e.0)

abbrev items_inner : ItemsTree-F InItem InItems InBlock → ItemsTree-F ItemTree ItemsTree BlockTree
items_inner = map-ItemsTree InItem InItems InBlock ItemTree ItemsTree BlockTree (λ e. e.0) (λ e. e.0) (λ e. e.0)

abbrev block_inner : BlockTree-F InItem InItems InBlock → BlockTree-F ItemTree ItemsTree BlockTree
block_inner = map-BlockTree InItem InItems InBlock ItemTree ItemsTree BlockTree (λ e. e.0) (λ e. e.0) (λ e. e.0)

-- what one layer of each uses
abbrev uses_of_item : ItemTree-F ItemTree ItemsTree BlockTree → Uses
uses_of_item x = item_uses_layer (map-ItemTree ItemTree ItemsTree BlockTree Uses Uses Uses item_uses items_uses block_uses x)

abbrev uses_of_items : ItemsTree-F ItemTree ItemsTree BlockTree → Uses
uses_of_items x = items_uses_layer (map-ItemsTree ItemTree ItemsTree BlockTree Uses Uses Uses item_uses items_uses block_uses x)

abbrev uses_of_block : BlockTree-F ItemTree ItemsTree BlockTree → Uses
uses_of_block x = block_uses_layer (map-BlockTree ItemTree ItemsTree BlockTree Uses Uses Uses item_uses items_uses block_uses x)

item_uses-roll : (x : ItemTree-F ItemTree ItemsTree BlockTree) → item_uses (roll-ItemTree x) ≡ uses_of_item x
unfolding item_uses items_uses block_uses
item_uses-roll x = fold-roll-ItemTree Uses Uses Uses item_uses_layer items_uses_layer block_uses_layer x

items_uses-roll : (x : ItemsTree-F ItemTree ItemsTree BlockTree) → items_uses (roll-ItemsTree x) ≡ uses_of_items x
unfolding item_uses items_uses block_uses
items_uses-roll x = fold-roll-ItemsTree Uses Uses Uses item_uses_layer items_uses_layer block_uses_layer x

block_uses-roll : (x : BlockTree-F ItemTree ItemsTree BlockTree) → block_uses (roll-BlockTree x) ≡ uses_of_block x
unfolding item_uses items_uses block_uses
block_uses-roll x = fold-roll-BlockTree Uses Uses Uses item_uses_layer items_uses_layer block_uses_layer x

names-item : (y : ItemTree-F InItem InItems InBlock) → Names (item_of (item_inner y)) (uses_of_item (item_inner y))
names-item (ItemTree-F.Block inner) = inner.1
names-item (ItemTree-F.ForAll at params body) = names-within data_alone params (item body.0) (item_uses body.0) body.1
names-item (ItemTree-F.If at test holds None) =
    names-three (condition data_alone test) (items holds.0) (if_written None) (expression (form_expr test)) (items_uses holds.0) no_uses (names-condition data_alone test) holds.1 names-none
names-item (ItemTree-F.If at test holds (Some fails)) =
    names-three (condition data_alone test) (items holds.0) (items fails.0) (expression (form_expr test)) (items_uses holds.0) (items_uses fails.0) (names-condition data_alone test) holds.1 fails.1
names-item (ItemTree-F.Precedes at first second) = names-precedes at first second
names-item (ItemTree-F.Requires t) = names-requires t
names-item (ItemTree-F.Constraint t) = names-condition nothing t

names-items : (y : ItemsTree-F InItem InItems InBlock) → Names (items_of (items_inner y)) (uses_of_items (items_inner y))
names-items (ItemsTree-F.Empty at) = names-none
names-items (ItemsTree-F.Several at first rest is_closed) = names-each item item_uses (first ∷ rest)

names-in_block : (y : BlockTree-F InItem InItems InBlock) → Names (block_of (block_inner y)) (uses_of_block (block_inner y))
names-in_block y = y.items.1

-- one layer, and what it uses, of which something is known
pub same-names : (l m : Looked) (u v : Uses) → l ≡ m → u ≡ v → Names m v → Names l u
same-names l m u v h g names = subst (λ (k : Looked). Names k u) (sym h) (subst (λ (w : Uses). Names m w) (sym g) names)

pub names-block : (t : BlockTree) → Names (block t) (block_uses t)
names-block = ind-BlockTree (λ t. Names (item t) (item_uses t)) (λ t. Names (items t) (items_uses t)) (λ t. Names (block t) (block_uses t))
    (λ x y is. same-names _ _ _ _ (item-roll x) (item_uses-roll x) (subst (λ z. Names (item_of z) (uses_of_item z)) is (names-item y)))
    (λ x y is. same-names _ _ _ _ (items-roll x) (items_uses-roll x) (subst (λ z. Names (items_of z) (uses_of_items z)) is (names-items y)))
    (λ x y is. same-names _ _ _ _ (block-roll x) (block_uses-roll x) (subst (λ z. Names (block_of z) (uses_of_block z)) is (names-in_block y)))
