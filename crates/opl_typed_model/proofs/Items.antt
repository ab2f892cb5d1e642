-- Items and statements have types exactly where typing accepts them.
use Rattle.std.proofs.Common.{◌≡◌, ℕ, true, List, [], ◌∷◌, ◌++◌, map, Option, None, Some, Ok, refl, ◌∙◌, sym, subst}
use Rattle.opl_tree.specs.declared.expression.ExprTree.{ExprTree}
use Rattle.opl_tree.specs.declared.expression.ParamsTree.{ParamsTree}
use Rattle.opl_tree.specs.declared.expression.PostTree.{PostTree}
use Rattle.opl_tree.specs.declared.instruction.BlockTree.{BlockTree}
use Rattle.opl_tree.specs.declared.instruction.ItemTree.{ItemTree}
use Rattle.opl_tree.specs.declared.instruction.ItemTree.TheFolds.{fold-roll-ItemTree, fold-roll-ItemsTree, fold-roll-BlockTree, ind-BlockTree, map-ItemTree, map-ItemsTree, map-BlockTree}
use Rattle.opl_tree.specs.declared.instruction.ItemTree.TheOpen.{ItemTree-F, ItemsTree-F, BlockTree-F}
use Rattle.opl_tree.specs.declared.instruction.ItemTree.TheViews.{roll-ItemTree, roll-ItemsTree, roll-BlockTree}
use Rattle.opl_tree.specs.declared.instruction.ItemsTree.{ItemsTree}
use Rattle.opl_tree.specs.declared.instruction.RequiresTree.{RequiresTree}
use Rattle.opl_tree.specs.declared.search.LabelOp.{LabelOp}
use Rattle.opl_tree.specs.declared.search.LabelOp.TheVariants as labels
use Rattle.opl_tree.specs.declared.search.OrderTree.{OrderTree}
use Rattle.opl_tree.specs.declared.search.SearchBlockTree.{SearchBlockTree}
use Rattle.opl_tree.specs.declared.search.StatementTree.{StatementTree}
use Rattle.opl_tree.specs.declared.search.StatementTree.TheFolds.{fold-roll-StatementTree, fold-roll-StatementsTree, fold-roll-SearchBlockTree, ind-SearchBlockTree, map-StatementTree, map-StatementsTree, map-SearchBlockTree}
use Rattle.opl_tree.specs.declared.search.StatementTree.TheOpen.{StatementTree-F, StatementsTree-F, SearchBlockTree-F}
use Rattle.opl_tree.specs.declared.search.StatementTree.TheViews.{roll-StatementTree, roll-StatementsTree, roll-SearchBlockTree}
use Rattle.opl_tree.specs.declared.search.StatementsTree.{StatementsTree}
use Rattle.opl_type_rules.specs.declared.fault.TypeFault.TheVariants.{Mismatch}
use Rattle.opl_type_rules.specs.Types.{Sort, is_number, is_truth}
use Rattle.opl_type_rules.specs.Scope.{and_then, unless, Scope}
use Rattle.opl_type_rules.specs.Forms.{form_expr, form_add, form_post, form_params}
use Rattle.opl_type_rules.specs.Expressions.{Node, Need, used, part, any_type, kinds, typing, open_params}
use Rattle.opl_type_rules.specs.Expressions.Need.{nothing, data_alone, data_or_questions}
use Rattle.opl_item_types.specs.Items.{Looked, each, if_written, within, condition, precedes, requires, item, items, block, is_labelled, label, order, statement, statements, search_block}
use Rattle.opl_model_types.proofs.PureItems.{item_of, items_of, block_of, item-roll, items-roll, block-roll, statement_of, statements_of, search_of, statement-roll, statements-roll, search-roll}
use Rattle.opl_typed.specs.Relation.{typed_of}
use Rattle.opl_typed.proofs.Lawful.{sound, complete, params_sound, params_complete}
use Rattle.opl_typed.proofs.Steps.{went, goes, passed, unit-ok}
use Rattle.opl_typed_model.specs.Parts.{Part, together, item_part_layer, items_part_layer, block_part_layer, item_part, items_part, block_part, order_part, statement_part_layer, statements_part_layer, search_part_layer, statement_part, statements_part, search_part, IsLabelled, IsTyped}
use Rattle.opl_typed_model.specs.Parts.Part.{empty, condition as condition_part, precedence, requirement, labelled, both, behind}
use Rattle.opl_typed_model.proofs.Places.{stands-sound, stands-complete}
use Rattle.opl_typed_model.proofs.Resources.{pass, precedes-sound, precedes-complete, requires-sound, requires-complete}

-- what is looked at is accepted exactly where it has types
pub record Agrees (l : Looked) (p : Part) : Type 0 where
  pub sound : (sc : Scope) (ks : List Sort) → l sc ≡ Ok ks → IsTyped sc p
  pub complete : (sc : Scope) → IsTyped sc p → (ks : List Sort) × (l sc ≡ Ok ks)

-- ---- one after the other

pub agrees-none : Agrees (each []) empty
agrees-none = record { sound = λ sc ks h. tt; complete = λ sc h. ([], refl) }

pub agrees-more : (l : Looked) (ls : List Looked) (p q : Part) → Agrees l p → Agrees (each ls) q → Agrees (each (l ∷ ls)) (both p q)
agrees-more l ls p q first rest = record { sound = more-sound; complete = more-complete }
  where
    more-sound : (sc : Scope) (ks : List Sort) → each (l ∷ ls) sc ≡ Ok ks → IsTyped sc (both p q)
    more-sound sc ks h =
        let w = went (l sc) _ ks h in
        let x = went (each ls sc) _ ks w.2 in
        (first.sound sc w.0 w.1, rest.sound sc x.0 x.1)

    more-complete : (sc : Scope) → IsTyped sc (both p q) → (ks : List Sort) × (each (l ∷ ls) sc ≡ Ok ks)
    more-complete sc h =
        let a = first.complete sc h.0 in
        let b = rest.complete sc h.1 in
        (a.0 ++ b.0, goes (l sc) (λ ks. and_then (each ls sc) (λ more. Ok (ks ++ more))) a.0 a.1 ∙ goes (each ls sc) (λ more. Ok (a.0 ++ more)) b.0 b.1)

agrees-two : (f g : Looked) (p q : Part) → Agrees f p → Agrees g q → Agrees (each (f ∷ g ∷ [])) (together (p ∷ q ∷ []))
agrees-two f g p q first second = agrees-more f (g ∷ []) p (together (q ∷ [])) first (agrees-more g [] q empty second agrees-none)

agrees-three : (f g l : Looked) (p q r : Part) → Agrees f p → Agrees g q → Agrees l r → Agrees (each (f ∷ g ∷ l ∷ [])) (together (p ∷ q ∷ r ∷ []))
agrees-three f g l p q r first second third = agrees-more f (g ∷ l ∷ []) p (together (q ∷ r ∷ [])) first (agrees-two g l q r second third)

agrees-each : {T : Type 0} (f : T → Looked) (g : T → Part) (es : List ((t : T) × Agrees (f t) (g t))) → Agrees (each (map f (map (λ e. e.0) es))) (together (map g (map (λ e. e.0) es)))
agrees-each f g [] = agrees-none
agrees-each f g (e ∷ es) = agrees-more (f e.0) (map f (map (λ e. e.0) es)) (g e.0) (together (map g (map (λ e. e.0) es))) e.1 (agrees-each f g es)

pub agrees-within : (need : Need) (params : ParamsTree) (l : Looked) (p : Part) → Agrees l p → Agrees (within need params l) (behind need (form_params params) p)
agrees-within need params l p inner = record { sound = within-sound; complete = within-complete }
  where
    within-sound : (sc : Scope) (ks : List Sort) → within need params l sc ≡ Ok ks → IsTyped sc (behind need (form_params params) p)
    within-sound sc ks h =
        let w = went (open_params need sc (form_params params)) _ ks h in
        let x = went (l w.0.scope) _ ks w.2 in
        (w.0.scope, params_sound need sc (form_params params) w.0 w.1, inner.sound w.0.scope x.0 x.1)

    within-complete : (sc : Scope) → IsTyped sc (behind need (form_params params) p) → (ks : List Sort) × (within need params l sc ≡ Ok ks)
    within-complete sc h =
        let o = params_complete need sc (form_params params) h.0 h.1 in
        let r = inner.complete o.0.scope (subst (λ (s : Scope). IsTyped s p) (sym o.2) h.2) in
        (o.0.kinds ++ r.0, goes (open_params need sc (form_params params)) (λ opened. and_then (l opened.scope) (λ rest. Ok (opened.kinds ++ rest))) o.0 o.1 ∙ goes (l o.0.scope) (λ rest. Ok (o.0.kinds ++ rest)) r.0 r.1)

pub agrees-condition : (need : Need) (t : ExprTree) → Agrees (condition need t) (condition_part need (form_expr t))
agrees-condition need t = record { sound = condition-sound; complete = condition-complete }
  where
    condition-sound : (sc : Scope) (ks : List Sort) → condition need t sc ≡ Ok ks → IsTyped sc (condition_part need (form_expr t))
    condition-sound sc ks h =
        let w = went (and_then (typing sc (form_expr t)) (used need is_truth)) (λ n. Ok (kinds n)) ks h in stands-sound sc need is_truth (form_expr t) w.0 w.1

    condition-complete : (sc : Scope) → IsTyped sc (condition_part need (form_expr t)) → (ks : List Sort) × (condition need t sc ≡ Ok ks)
    condition-complete sc h =
        let k = stands-complete sc need is_truth (form_expr t) h in (kinds k.node, goes (and_then (typing sc (form_expr t)) (used need is_truth)) (λ n. Ok (kinds n)) k.node k.given)

pub agrees-precedes : (at : ℕ) (first second : PostTree) → Agrees (precedes at first second) (precedence (form_post first) (form_post second))
agrees-precedes at first second = record { sound = λ sc ks h. precedes-sound at (form_post first) (form_post second) sc ks h; complete = λ sc h. precedes-complete at (form_post first) (form_post second) sc h }

pub agrees-requires : (t : RequiresTree) → Agrees (requires t) (requirement t)
agrees-requires t = record { sound = λ sc ks h. requires-sound t sc ks h; complete = λ sc h. requires-complete t sc h }

-- ---- items

-- what is known of the items inside an item
abbrev InItem : Type 0
InItem = (t : ItemTree) × Agrees (item t) (item_part t)

abbrev InItems : Type 0
InItems = (t : ItemsTree) × Agrees (items t) (items_part t)

abbrev InBlock : Type 0
InBlock = (t : BlockTree) × Agrees (block t) (block_part t)

abbrev item_inner : ItemTree-F InItem InItems InBlock → ItemTree-F ItemTree ItemsTree BlockTree
item_inner = map-ItemTree InItem InItems InBlock ItemTree ItemsTree BlockTree (λ e. e.0) (λ e. e.0) (λ e. e.0)

abbrev items_inner : ItemsTree-F InItem InItems InBlock → ItemsTree-F ItemTree ItemsTree BlockTree
items_inner = map-ItemsTree InItem InItems InBlock ItemTree ItemsTree BlockTree (λ e. e.0) (λ e. e.0) (λ e. e.0)

abbrev block_inner : BlockTree-F InItem InItems InBlock → BlockTree-F ItemTree ItemsTree BlockTree
block_inner = map-BlockTree InItem InItems InBlock ItemTree ItemsTree BlockTree (λ e. e.0) (λ e. e.0) (λ e. e.0)

-- one layer of each
abbrev pub part_of_item : ItemTree-F ItemTree ItemsTree BlockTree → Part
part_of_item x = item_part_layer (map-ItemTree ItemTree ItemsTree BlockTree Part Part Part item_part items_part block_part x)

abbrev pub part_of_items : ItemsTree-F ItemTree ItemsTree BlockTree → Part
part_of_items x = items_part_layer (map-ItemsTree ItemTree ItemsTree BlockTree Part Part Part item_part items_part block_part x)

abbrev pub part_of_block : BlockTree-F ItemTree ItemsTree BlockTree → Part
part_of_block x = block_part_layer (map-BlockTree ItemTree ItemsTree BlockTree Part Part Part item_part items_part block_part x)

pub item_part-roll : (x : ItemTree-F ItemTree ItemsTree BlockTree) → item_part (roll-ItemTree x) ≡ part_of_item x
unfolding item_part items_part block_part
item_part-roll x = fold-roll-ItemTree Part Part Part item_part_layer items_part_layer block_part_layer x

pub items_part-roll : (x : ItemsTree-F ItemTree ItemsTree BlockTree) → items_part (roll-ItemsTree x) ≡ part_of_items x
unfolding item_part items_part block_part
items_part-roll x = fold-roll-ItemsTree Part Part Part item_part_layer items_part_layer block_part_layer x

pub block_part-roll : (x : BlockTree-F ItemTree ItemsTree BlockTree) → block_part (roll-BlockTree x) ≡ part_of_block x
unfolding item_part items_part block_part
block_part-roll x = fold-roll-BlockTree Part Part Part item_part_layer items_part_layer block_part_layer x

agrees-item : (y : ItemTree-F InItem InItems InBlock) → Agrees (item_of (item_inner y)) (part_of_item (item_inner y))
agrees-item (ItemTree-F.Block inner) = inner.1
agrees-item (ItemTree-F.ForAll at params body) = agrees-within data_alone params (item body.0) (item_part body.0) body.1
agrees-item (ItemTree-F.If at test holds None) =
    agrees-three (condition data_alone test) (items holds.0) (if_written None) (condition_part data_alone (form_expr test)) (items_part holds.0) empty (agrees-condition data_alone test) holds.1 agrees-none
agrees-item (ItemTree-F.If at test holds (Some fails)) =
    agrees-three (condition data_alone test) (items holds.0) (items fails.0) (condition_part data_alone (form_expr test)) (items_part holds.0) (items_part fails.0) (agrees-condition data_alone test) holds.1 fails.1
agrees-item (ItemTree-F.Precedes at first second) = agrees-precedes at first second
agrees-item (ItemTree-F.Requires t) = agrees-requires t
agrees-item (ItemTree-F.Constraint t) = agrees-condition nothing t

agrees-items : (y : ItemsTree-F InItem InItems InBlock) → Agrees (items_of (items_inner y)) (part_of_items (items_inner y))
agrees-items (ItemsTree-F.Empty at) = agrees-none
agrees-items (ItemsTree-F.Several at first rest is_closed) = agrees-each item item_part (first ∷ rest)

agrees-in_block : (y : BlockTree-F InItem InItems InBlock) → Agrees (block_of (block_inner y)) (part_of_block (block_inner y))
agrees-in_block y = y.items.1

-- one layer, and what it is made of, of which something is known
same-agrees : (l m : Looked) (p q : Part) → l ≡ m → p ≡ q → Agrees m q → Agrees l p
same-agrees l m p q h g agrees = subst (λ (k : Looked). Agrees k p) (sym h) (subst (λ (r : Part). Agrees m r) (sym g) agrees)

pub agrees-block : (t : BlockTree) → Agrees (block t) (block_part t)
agrees-block = ind-BlockTree (λ t. Agrees (item t) (item_part t)) (λ t. Agrees (items t) (items_part t)) (λ t. Agrees (block t) (block_part t))
    (λ x y is. same-agrees _ _ _ _ (item-roll x) (item_part-roll x) (subst (λ z. Agrees (item_of z) (part_of_item z)) is (agrees-item y)))
    (λ x y is. same-agrees _ _ _ _ (items-roll x) (items_part-roll x) (subst (λ z. Agrees (items_of z) (part_of_items z)) is (agrees-items y)))
    (λ x y is. same-agrees _ _ _ _ (block-roll x) (block_part-roll x) (subst (λ z. Agrees (block_of z) (part_of_block z)) is (agrees-in_block y)))

-- ---- statements

labelled-has : (op : LabelOp) (n : Node) → is_labelled op n ≡ true → IsLabelled op (typed_of n)
labelled-has labels.Generate n h = h
labelled-has labels.Rank n h = h

has-labelled : (op : LabelOp) (n : Node) → IsLabelled op (typed_of n) → is_labelled op n ≡ true
has-labelled labels.Generate n h = h
has-labelled labels.Rank n h = h

pub agrees-label : (at : ℕ) (op : LabelOp) (t : PostTree) → Agrees (label at op t) (labelled op (form_post t))
agrees-label at op t = record { sound = label-sound; complete = label-complete }
  where
    label-sound : (sc : Scope) (ks : List Sort) → label at op t sc ≡ Ok ks → IsTyped sc (labelled op (form_post t))
    label-sound sc ks h =
        let w = went (and_then (typing sc (form_post t)) part) _ ks h in
        let u = went (unless (is_labelled op w.0) (Mismatch at)) _ ks w.2 in
        let s = sound sc (form_post t) nothing any_type w.0 w.1 in
        (typed_of w.0, s.0, labelled-has op w.0 (passed (is_labelled op w.0) (Mismatch at) (unit-ok _ u.0 u.1)))

    label-complete : (sc : Scope) → IsTyped sc (labelled op (form_post t)) → (ks : List Sort) × (label at op t sc ≡ Ok ks)
    label-complete sc h =
        let k = complete sc (form_post t) nothing any_type h.0 (h.1, tt, refl) in
        let test : is_labelled op k.0 ≡ true = has-labelled op k.0 (subst (IsLabelled op) (sym k.2) h.2) in
        (kinds k.0, goes (and_then (typing sc (form_post t)) part) (λ n. and_then (unless (is_labelled op n) (Mismatch at)) (λ u. Ok (kinds n))) k.0 k.1 ∙ goes (unless (is_labelled op k.0) (Mismatch at)) (λ u. Ok (kinds k.0)) tt (pass (is_labelled op k.0) (Mismatch at) test))

key-sound : (t : OrderTree) (sc : Scope) (ks : List Sort) → order (Some t) sc ≡ Ok ks → IsTyped sc (order_part (Some t))
key-sound t sc ks h =
    let w = went (and_then (typing sc (form_add t.key)) (used data_or_questions is_number)) (λ n. Ok (kinds n)) ks h in stands-sound sc data_or_questions is_number (form_add t.key) w.0 w.1

key-complete : (t : OrderTree) (sc : Scope) → IsTyped sc (order_part (Some t)) → (ks : List Sort) × (order (Some t) sc ≡ Ok ks)
key-complete t sc h =
    let k = stands-complete sc data_or_questions is_number (form_add t.key) h in (kinds k.node, goes (and_then (typing sc (form_add t.key)) (used data_or_questions is_number)) (λ n. Ok (kinds n)) k.node k.given)

pub agrees-order : (t : Option OrderTree) → Agrees (order t) (order_part t)
agrees-order None = record { sound = λ sc ks h. tt; complete = λ sc h. ([], refl) }
agrees-order (Some t) = record { sound = λ sc ks h. key-sound t sc ks h; complete = λ sc h. key-complete t sc h }

-- what is known of the statements inside a statement
abbrev InStatement : Type 0
InStatement = (t : StatementTree) × Agrees (statement t) (statement_part t)

abbrev InStatements : Type 0
InStatements = (t : StatementsTree) × Agrees (statements t) (statements_part t)

abbrev InSearch : Type 0
InSearch = (t : SearchBlockTree) × Agrees (search_block t) (search_part t)

abbrev statement_inner : StatementTree-F InStatement InStatements InSearch → StatementTree-F StatementTree StatementsTree SearchBlockTree
statement_inner = map-StatementTree InStatement InStatements InSearch StatementTree StatementsTree SearchBlockTree (λ e. e.0) (λ e. e.0) (λ e. e.0)

abbrev statements_inner : StatementsTree-F InStatement InStatements InSearch → StatementsTree-F StatementTree StatementsTree SearchBlockTree
statements_inner = map-StatementsTree InStatement InStatements InSearch StatementTree StatementsTree SearchBlockTree (λ e. e.0) (λ e. e.0) (λ e. e.0)

abbrev search_inner : SearchBlockTree-F InStatement InStatements InSearch → SearchBlockTree-F StatementTree StatementsTree SearchBlockTree
search_inner = map-SearchBlockTree InStatement InStatements InSearch StatementTree StatementsTree SearchBlockTree (λ e. e.0) (λ e. e.0) (λ e. e.0)

-- one layer of each
abbrev pub part_of_statement : StatementTree-F StatementTree StatementsTree SearchBlockTree → Part
part_of_statement x = statement_part_layer (map-StatementTree StatementTree StatementsTree SearchBlockTree Part Part Part statement_part statements_part search_part x)

abbrev pub part_of_statements : StatementsTree-F StatementTree StatementsTree SearchBlockTree → Part
part_of_statements x = statements_part_layer (map-StatementsTree StatementTree StatementsTree SearchBlockTree Part Part Part statement_part statements_part search_part x)

abbrev pub part_of_search : SearchBlockTree-F StatementTree StatementsTree SearchBlockTree → Part
part_of_search x = search_part_layer (map-SearchBlockTree StatementTree StatementsTree SearchBlockTree Part Part Part statement_part statements_part search_part x)

pub statement_part-roll : (x : StatementTree-F StatementTree StatementsTree SearchBlockTree) → statement_part (roll-StatementTree x) ≡ part_of_statement x
unfolding statement_part statements_part search_part
statement_part-roll x = fold-roll-StatementTree Part Part Part statement_part_layer statements_part_layer search_part_layer x

pub statements_part-roll : (x : StatementsTree-F StatementTree StatementsTree SearchBlockTree) → statements_part (roll-StatementsTree x) ≡ part_of_statements x
unfolding statement_part statements_part search_part
statements_part-roll x = fold-roll-StatementsTree Part Part Part statement_part_layer statements_part_layer search_part_layer x

pub search_part-roll : (x : SearchBlockTree-F StatementTree StatementsTree SearchBlockTree) → search_part (roll-SearchBlockTree x) ≡ part_of_search x
unfolding statement_part statements_part search_part
search_part-roll x = fold-roll-SearchBlockTree Part Part Part statement_part_layer statements_part_layer search_part_layer x

agrees-statement : (y : StatementTree-F InStatement InStatements InSearch) → Agrees (statement_of (statement_inner y)) (part_of_statement (statement_inner y))
agrees-statement (StatementTree-F.Block inner) = inner.1
agrees-statement (StatementTree-F.Try at first second others) = agrees-each statements statements_part (first ∷ second ∷ others)
agrees-statement (StatementTree-F.Branch at op params body) =
    agrees-within data_or_questions params.params (each (order params.order ∷ statement body.0 ∷ [])) (together (order_part params.order ∷ statement_part body.0 ∷ []))
    (agrees-two (order params.order) (statement body.0) (order_part params.order) (statement_part body.0) (agrees-order params.order) body.1)
agrees-statement (StatementTree-F.Once at body) = body.1
agrees-statement (StatementTree-F.While at test body) =
    agrees-two (condition data_or_questions test) (statement body.0) (condition_part data_or_questions (form_expr test)) (statement_part body.0) (agrees-condition data_or_questions test) body.1
agrees-statement (StatementTree-F.If at test holds None) =
    agrees-three (condition data_or_questions test) (statements holds.0) (if_written None) (condition_part data_or_questions (form_expr test)) (statements_part holds.0) empty (agrees-condition data_or_questions test) holds.1 agrees-none
agrees-statement (StatementTree-F.If at test holds (Some fails)) =
    agrees-three (condition data_or_questions test) (statements holds.0) (statements fails.0) (condition_part data_or_questions (form_expr test)) (statements_part holds.0) (statements_part fails.0) (agrees-condition data_or_questions test) holds.1 fails.1
agrees-statement (StatementTree-F.Label at op t) = agrees-label at op t
agrees-statement (StatementTree-F.Precedes at first second) = agrees-precedes at first second
agrees-statement (StatementTree-F.Constraint t) = agrees-condition nothing t

agrees-statements : (y : StatementsTree-F InStatement InStatements InSearch) → Agrees (statements_of (statements_inner y)) (part_of_statements (statements_inner y))
agrees-statements (StatementsTree-F.Empty at) = agrees-none
agrees-statements (StatementsTree-F.Several at first rest is_closed) = agrees-each statement statement_part (first ∷ rest)

agrees-in_search : (y : SearchBlockTree-F InStatement InStatements InSearch) → Agrees (search_of (search_inner y)) (part_of_search (search_inner y))
agrees-in_search y = y.statements.1

pub agrees-search : (t : SearchBlockTree) → Agrees (search_block t) (search_part t)
agrees-search = ind-SearchBlockTree (λ t. Agrees (statement t) (statement_part t)) (λ t. Agrees (statements t) (statements_part t)) (λ t. Agrees (search_block t) (search_part t))
    (λ x y is. same-agrees _ _ _ _ (statement-roll x) (statement_part-roll x) (subst (λ z. Agrees (statement_of z) (part_of_statement z)) is (agrees-statement y)))
    (λ x y is. same-agrees _ _ _ _ (statements-roll x) (statements_part-roll x) (subst (λ z. Agrees (statements_of z) (part_of_statements z)) is (agrees-statements y)))
    (λ x y is. same-agrees _ _ _ _ (search-roll x) (search_part-roll x) (subst (λ z. Agrees (search_of z) (part_of_search z)) is (agrees-in_search y)))
