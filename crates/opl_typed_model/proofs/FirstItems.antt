-- Typing of items and statements finds that something is no data exactly where it first comes to such an expression.
use Rattle.std.proofs.Common.{◌≡◌, ◌⊎◌, inl, inr, ℕ, ◌&&◌, true, List, [], ◌∷◌, map, Option, None, Some, Ok, Err, refl, sym, subst}
use Rattle.opl_tree.specs.declared.expression.ExprTree.{ExprTree}
use Rattle.opl_tree.specs.declared.expression.NameTree.{NameTree}
use Rattle.opl_tree.specs.declared.expression.ParamsTree.{ParamsTree}
use Rattle.opl_tree.specs.declared.expression.PostTree.{PostTree}
use Rattle.opl_tree.specs.declared.expression.SubscriptsTree.{SubscriptsTree}
use Rattle.opl_tree.specs.declared.instruction.BlockTree.{BlockTree}
use Rattle.opl_tree.specs.declared.instruction.InstrTree.{InstrTree}
use Rattle.opl_tree.specs.declared.instruction.InstrTree.TheVariants as instrs
use Rattle.opl_tree.specs.declared.instruction.ItemTree.{ItemTree}
use Rattle.opl_tree.specs.declared.instruction.ItemTree.TheFolds.{ind-BlockTree, map-ItemTree, map-ItemsTree, map-BlockTree}
use Rattle.opl_tree.specs.declared.instruction.ItemTree.TheOpen.{ItemTree-F, ItemsTree-F, BlockTree-F}
use Rattle.opl_tree.specs.declared.instruction.ItemsTree.{ItemsTree}
use Rattle.opl_tree.specs.declared.instruction.RequiresTree.{RequiresTree}
use Rattle.opl_tree.specs.declared.search.LabelOp.{LabelOp}
use Rattle.opl_tree.specs.declared.search.OrderTree.{OrderTree}
use Rattle.opl_tree.specs.declared.search.SearchBlockTree.{SearchBlockTree}
use Rattle.opl_tree.specs.declared.search.SearchTree.{SearchTree}
use Rattle.opl_tree.specs.declared.search.StatementTree.{StatementTree}
use Rattle.opl_tree.specs.declared.search.StatementTree.TheFolds.{ind-SearchBlockTree, map-StatementTree, map-StatementsTree, map-SearchBlockTree}
use Rattle.opl_tree.specs.declared.search.StatementTree.TheOpen.{StatementTree-F, StatementsTree-F, SearchBlockTree-F}
use Rattle.opl_tree.specs.declared.search.StatementsTree.{StatementsTree}
use Rattle.opl_type_rules.specs.Types.{Sort, is_activity, is_number, is_truth}
use Rattle.opl_type_rules.specs.Scope.{Checked, empty_scope, lookup, Scope, Thing}
use Rattle.opl_type_rules.specs.Forms.{form_add, form_expr, form_params, form_post, form_subscripts, forms_of}
use Rattle.opl_type_rules.specs.Expressions.{Need, any_type}
use Rattle.opl_type_rules.specs.Expressions.Need.{nothing, data_alone, data_or_questions}
use Rattle.opl_item_types.specs.Items.{Looked, each, if_written, within, condition, precedes, requires, known, subscript_nodes, is_resource, item, items, block, is_labelled, label, order, search, statement, statements, search_block, instr}
use Rattle.opl_model_types.specs.Models.{model}
use Rattle.opl_model_types.proofs.PureItems.{item_of, items_of, block_of, item-roll, items-roll, block-roll, statement_of, statements_of, search_of, statement-roll, statements-roll, search-roll}
use Rattle.opl_not_data.specs.First.{After}
use Rattle.opl_not_data.proofs.First.{Finds, Never, finds-behind, finds-last, finds-then, never-finds, never-mismatch, never-ok, never-then, not_data_is_first, not_data_is_first_of_parameters, parts_find}
use Rattle.opl_typed_model.specs.First.{InInstr, InPart, InSearch, InSubscripts}
use Rattle.opl_typed_model.specs.Laws.{NotDataIsFirstOfModels}
use Rattle.opl_typed_model.specs.Parts.{Part, together, item_part, items_part, block_part, order_part, statement_part, statements_part, search_part, IsTyped}
use Rattle.opl_typed_model.specs.Parts.Part.{empty, condition as condition_part, precedence, requirement, labelled, both, behind}
use Rattle.opl_typed_model.proofs.FirstDecls.{decls-find, maybe-finds}
use Rattle.opl_typed_model.proofs.Items.{Agrees, agrees-none, agrees-more, agrees-within, agrees-condition, agrees-precedes, agrees-requires, agrees-label, agrees-order, part_of_item, part_of_items, part_of_block, part_of_statement, part_of_statements, part_of_search, item_part-roll, items_part-roll, block_part-roll, statement_part-roll, statements_part-roll, search_part-roll}

-- what is looked at is accepted exactly where it has types, and is no data exactly where typing first comes to what is none
record Tells (l : Looked) (p : Part) : Type 0 where
  agrees : Agrees l p
  finds : (sc : Scope) → Finds (l sc) (InPart sc p)

-- the same, told in other words
finds-as : {A : Type 0} (c : Checked A) (P Q : ℕ → Type 0) → ((at : ℕ) → P at → Q at) → ((at : ℕ) → Q at → P at) → Finds c P → Finds c Q
finds-as c P Q to from h at = ((λ e. to at ((h at).0 e)), (λ q. (h at).1 (from at q)))

-- ---- one after the other

tells-none : Tells (each []) empty
tells-none = record { agrees = agrees-none; finds = λ sc. never-finds _ (never-ok _) }

found-before : (c : Checked (List Sort)) (Q : Type 0) → After c (λ ks. Q) → (ks : List Sort) × (c ≡ Ok ks) × Q
found-before (Ok ks) Q h = (ks, refl, h)
found-before (Err e) Q h = absurd h

behind-found : (c : Checked (List Sort)) (Q : Type 0) (ks : List Sort) → c ≡ Ok ks → Q → After c (λ more. Q)
behind-found (Ok more) Q ks h q = q
behind-found (Err e) Q ks h q = absurd (cc)

module _ (l : Looked) (p : Part) (agrees : Agrees l p) (sc : Scope) (P Q : ℕ → Type 0) where
  to-typed : (at : ℕ) → P at ⊎ After (l sc) (λ ks. Q at) → P at ⊎ (IsTyped sc p × Q at)
  to-typed at (inl h) = inl h
  to-typed at (inr h) = let f = found-before (l sc) (Q at) h in inr (agrees.sound sc f.0 f.1, f.2)

  from-typed : (at : ℕ) → P at ⊎ (IsTyped sc p × Q at) → P at ⊎ After (l sc) (λ ks. Q at)
  from-typed at (inl h) = inl h
  from-typed at (inr h) = let f = agrees.complete sc h.0 in inr (behind-found (l sc) (Q at) f.0 f.1 h.1)

tells-more : (l : Looked) (ls : List Looked) (p q : Part) → Tells l p → Tells (each ls) q → Tells (each (l ∷ ls)) (both p q)
tells-more l ls p q first rest = record {
  agrees = agrees-more l ls p q first.agrees rest.agrees;
  finds = λ sc.
      finds-as _ _ _ (to-typed l p first.agrees sc (InPart sc p) (InPart sc q)) (from-typed l p first.agrees sc (InPart sc p) (InPart sc q))
      (finds-then (l sc) _ (InPart sc p) (λ ks. InPart sc q) (first.finds sc) (λ ks h. finds-last (each ls sc) _ (InPart sc q) (rest.finds sc) (λ more. never-ok _)));
}

tells-two : (f g : Looked) (p q : Part) → Tells f p → Tells g q → Tells (each (f ∷ g ∷ [])) (together (p ∷ q ∷ []))
tells-two f g p q first second = tells-more f (g ∷ []) p (together (q ∷ [])) first (tells-more g [] q empty second tells-none)

tells-three : (f g l : Looked) (p q r : Part) → Tells f p → Tells g q → Tells l r → Tells (each (f ∷ g ∷ l ∷ [])) (together (p ∷ q ∷ r ∷ []))
tells-three f g l p q r first second third = tells-more f (g ∷ l ∷ []) p (together (q ∷ r ∷ [])) first (tells-two g l q r second third)

tells-each : {T : Type 0} (f : T → Looked) (g : T → Part) (es : List ((t : T) × Tells (f t) (g t))) → Tells (each (map f (map (λ e. e.0) es))) (together (map g (map (λ e. e.0) es)))
tells-each f g [] = tells-none
tells-each f g (e ∷ es) = tells-more (f e.0) (map f (map (λ e. e.0) es)) (g e.0) (together (map g (map (λ e. e.0) es))) e.1 (tells-each f g es)

tells-within : (need : Need) (params : ParamsTree) (l : Looked) (p : Part) → Tells l p → Tells (within need params l) (behind need (form_params params) p)
tells-within need params l p inner = record {
  agrees = agrees-within need params l p inner.agrees;
  finds = λ sc. finds-then _ _ _ (λ o. InPart o.scope p) (not_data_is_first_of_parameters sc (form_params params) need) (λ o h. finds-last _ _ _ (inner.finds o.scope) (λ rest. never-ok _));
}

-- ---- one place

tells-condition : (need : Need) (t : ExprTree) → Tells (condition need t) (condition_part need (form_expr t))
tells-condition need t = record { agrees = agrees-condition need t; finds = λ sc. finds-last _ _ _ (not_data_is_first sc (form_expr t) need is_truth) (λ n. never-ok _) }

tells-precedes : (at : ℕ) (first second : PostTree) → Tells (precedes at first second) (precedence (form_post first) (form_post second))
tells-precedes at first second = record {
  agrees = agrees-precedes at first second;
  finds = λ sc.
      finds-then _ _ _ _ (not_data_is_first sc (form_post first) nothing any_type) (λ m h.
      finds-last _ _ _ (not_data_is_first sc (form_post second) nothing any_type) (λ n. never-then _ _ (never-mismatch (is_activity m.sort && is_activity n.sort) at) (λ u. never-ok _)));
}

known-never : (name : NameTree) (o : Option Thing) → Never (known name o)
known-never name None at h = absurd (cc)
known-never name (Some thing) at h = absurd (cc)

subscripts-find : (sc : Scope) (o : Option SubscriptsTree) → Finds (subscript_nodes sc o) (InSubscripts sc o)
subscripts-find sc None = never-finds _ (never-ok _)
subscripts-find sc (Some t) = parts_find sc (forms_of (form_subscripts t))

tells-requires : (t : RequiresTree) → Tells (requires t) (requirement t)
tells-requires t = record {
  agrees = agrees-requires t;
  finds = λ sc.
      finds-then _ _ _ _ (not_data_is_first sc (form_post t.activity) nothing any_type) (λ n h.
      finds-then _ _ _ _ (maybe-finds sc t.demand) (λ ks i.
      finds-behind _ _ _ (known-never t.resource (lookup sc t.resource.text)) (λ thing j.
      finds-last _ _ _ (subscripts-find sc t.subscripts) (λ ns. never-then _ _ (never-mismatch (is_activity n.sort && is_resource sc t ns thing) t.at) (λ u. never-ok _)))));
}

-- ---- items

abbrev InItem : Type 0
InItem = (t : ItemTree) × Tells (item t) (item_part t)

abbrev InItems : Type 0
InItems = (t : ItemsTree) × Tells (items t) (items_part t)

abbrev InBlock : Type 0
InBlock = (t : BlockTree) × Tells (block t) (block_part t)

abbrev item_inner : ItemTree-F InItem InItems InBlock → ItemTree-F ItemTree ItemsTree BlockTree
item_inner = map-ItemTree InItem InItems InBlock ItemTree ItemsTree BlockTree (λ e. e.0) (λ e. e.0) (λ e. e.0)

abbrev items_inner : ItemsTree-F InItem InItems InBlock → ItemsTree-F ItemTree ItemsTree BlockTree
items_inner = map-ItemsTree InItem InItems InBlock ItemTree ItemsTree BlockTree (λ e. e.0) (λ e. e.0) (λ e. e.0)

abbrev block_inner : BlockTree-F InItem InItems InBlock → BlockTree-F ItemTree ItemsTree BlockTree
block_inner = map-BlockTree InItem InItems InBlock ItemTree ItemsTree BlockTree (λ e. e.0) (λ e. e.0) (λ e. e.0)

tells-item : (y : ItemTree-F InItem InItems InBlock) → Tells (item_of (item_inner y)) (part_of_item (item_inner y))
tells-item (ItemTree-F.Block inner) = inner.1
tells-item (ItemTree-F.ForAll at params body) = tells-within data_alone params (item body.0) (item_part body.0) body.1
tells-item (ItemTree-F.If at test holds None) =
    tells-three (condition data_alone test) (items holds.0) (if_written None) (condition_part data_alone (form_expr test)) (items_part holds.0) empty (tells-condition data_alone test) holds.1 tells-none
tells-item (ItemTree-F.If at test holds (Some fails)) =
    tells-three (condition data_alone test) (items holds.0) (items fails.0) (condition_part data_alone (form_expr test)) (items_part holds.0) (items_part fails.0) (tells-condition data_alone test) holds.1 fails.1
tells-item (ItemTree-F.Precedes at first second) = tells-precedes at first second
tells-item (ItemTree-F.Requires t) = tells-requires t
tells-item (ItemTree-F.Constraint t) = tells-condition nothing t

tells-items : (y : ItemsTree-F InItem InItems InBlock) → Tells (items_of (items_inner y)) (part_of_items (items_inner y))
tells-items (ItemsTree-F.Empty at) = tells-none
tells-items (ItemsTree-F.Several at first rest is_closed) = tells-each item item_part (first ∷ rest)

tells-in_block : (y : BlockTree-F InItem InItems InBlock) → Tells (block_of (block_inner y)) (part_of_block (block_inner y))
tells-in_block y = y.items.1

same-tells : (l m : Looked) (p q : Part) → l ≡ m → p ≡ q → Tells m q → Tells l p
same-tells l m p q h g tells = subst (λ (k : Looked). Tells k p) (sym h) (subst (λ (r : Part). Tells m r) (sym g) tells)

tells-block : (t : BlockTree) → Tells (block t) (block_part t)
tells-block = ind-BlockTree (λ t. Tells (item t) (item_part t)) (λ t. Tells (items t) (items_part t)) (λ t. Tells (block t) (block_part t))
    (λ x y is. same-tells _ _ _ _ (item-roll x) (item_part-roll x) (subst (λ z. Tells (item_of z) (part_of_item z)) is (tells-item y)))
    (λ x y is. same-tells _ _ _ _ (items-roll x) (items_part-roll x) (subst (λ z. Tells (items_of z) (part_of_items z)) is (tells-items y)))
    (λ x y is. same-tells _ _ _ _ (block-roll x) (block_part-roll x) (subst (λ z. Tells (block_of z) (part_of_block z)) is (tells-in_block y)))

-- ---- statements

tells-label : (at : ℕ) (op : LabelOp) (t : PostTree) → Tells (label at op t) (labelled op (form_post t))
tells-label at op t = record {
  agrees = agrees-label at op t;
  finds = λ sc. finds-last _ _ _ (not_data_is_first sc (form_post t) nothing any_type) (λ n. never-then _ _ (never-mismatch (is_labelled op n) at) (λ u. never-ok _));
}

order-finds : (o : Option OrderTree) (sc : Scope) → Finds (order o sc) (InPart sc (order_part o))
order-finds None sc = never-finds _ (never-ok _)
order-finds (Some t) sc = finds-last _ _ _ (not_data_is_first sc (form_add t.key) data_or_questions is_number) (λ n. never-ok _)

tells-order : (o : Option OrderTree) → Tells (order o) (order_part o)
tells-order o = record { agrees = agrees-order o; finds = order-finds o }

abbrev InStatement : Type 0
InStatement = (t : StatementTree) × Tells (statement t) (statement_part t)

abbrev InStatements : Type 0
InStatements = (t : StatementsTree) × Tells (statements t) (statements_part t)

abbrev InSearchBlock : Type 0
InSearchBlock = (t : SearchBlockTree) × Tells (search_block t) (search_part t)

abbrev statement_inner : StatementTree-F InStatement InStatements InSearchBlock → StatementTree-F StatementTree StatementsTree SearchBlockTree
statement_inner = map-StatementTree InStatement InStatements InSearchBlock StatementTree StatementsTree SearchBlockTree (λ e. e.0) (λ e. e.0) (λ e. e.0)

abbrev statements_inner : StatementsTree-F InStatement InStatements InSearchBlock → StatementsTree-F StatementTree StatementsTree SearchBlockTree
statements_inner = map-StatementsTree InStatement InStatements InSearchBlock StatementTree StatementsTree SearchBlockTree (λ e. e.0) (λ e. e.0) (λ e. e.0)

abbrev search_inner : SearchBlockTree-F InStatement InStatements InSearchBlock → SearchBlockTree-F StatementTree StatementsTree SearchBlockTree
search_inner = map-SearchBlockTree InStatement InStatements InSearchBlock StatementTree StatementsTree SearchBlockTree (λ e. e.0) (λ e. e.0) (λ e. e.0)

tells-statement : (y : StatementTree-F InStatement InStatements InSearchBlock) → Tells (statement_of (statement_inner y)) (part_of_statement (statement_inner y))
tells-statement (StatementTree-F.Block inner) = inner.1
tells-statement (StatementTree-F.Try at first second others) = tells-each statements statements_part (first ∷ second ∷ others)
tells-statement (StatementTree-F.Branch at op params body) =
    tells-within data_or_questions params.params (each (order params.order ∷ statement body.0 ∷ [])) (together (order_part params.order ∷ statement_part body.0 ∷ []))
    (tells-two (order params.order) (statement body.0) (order_part params.order) (statement_part body.0) (tells-order params.order) body.1)
tells-statement (StatementTree-F.Once at body) = body.1
tells-statement (StatementTree-F.While at test body) =
    tells-two (condition data_or_questions test) (statement body.0) (condition_part data_or_questions (form_expr test)) (statement_part body.0) (tells-condition data_or_questions test) body.1
tells-statement (StatementTree-F.If at test holds None) =
    tells-three (condition data_or_questions test) (statements holds.0) (if_written None) (condition_part data_or_questions (form_expr test)) (statements_part holds.0) empty (tells-condition data_or_questions test) holds.1 tells-none
tells-statement (StatementTree-F.If at test holds (Some fails)) =
    tells-three (condition data_or_questions test) (statements holds.0) (statements fails.0) (condition_part data_or_questions (form_expr test)) (statements_part holds.0) (statements_part fails.0) (tells-condition data_or_questions test) holds.1 fails.1
tells-statement (StatementTree-F.Label at op t) = tells-label at op t
tells-statement (StatementTree-F.Precedes at first second) = tells-precedes at first second
tells-statement (StatementTree-F.Constraint t) = tells-condition nothing t

tells-statements : (y : StatementsTree-F InStatement InStatements InSearchBlock) → Tells (statements_of (statements_inner y)) (part_of_statements (statements_inner y))
tells-statements (StatementsTree-F.Empty at) = tells-none
tells-statements (StatementsTree-F.Several at first rest is_closed) = tells-each statement statement_part (first ∷ rest)

tells-in_search : (y : SearchBlockTree-F InStatement InStatements InSearchBlock) → Tells (search_of (search_inner y)) (part_of_search (search_inner y))
tells-in_search y = y.statements.1

tells-search : (t : SearchBlockTree) → Tells (search_block t) (search_part t)
tells-search = ind-SearchBlockTree (λ t. Tells (statement t) (statement_part t)) (λ t. Tells (statements t) (statements_part t)) (λ t. Tells (search_block t) (search_part t))
    (λ x y is. same-tells _ _ _ _ (statement-roll x) (statement_part-roll x) (subst (λ z. Tells (statement_of z) (part_of_statement z)) is (tells-statement y)))
    (λ x y is. same-tells _ _ _ _ (statements-roll x) (statements_part-roll x) (subst (λ z. Tells (statements_of z) (part_of_statements z)) is (tells-statements y)))
    (λ x y is. same-tells _ _ _ _ (search-roll x) (search_part-roll x) (subst (λ z. Tells (search_of z) (part_of_search z)) is (tells-in_search y)))

-- ---- models

instr-finds : (t : InstrTree) (sc : Scope) → Finds (instr t sc) (InInstr sc t)
instr-finds (instrs.Solve p t) sc = (tells-block t).finds sc
instr-finds (instrs.Optimize p optimum objective t) sc =
    finds-then _ _ _ _ (not_data_is_first sc (form_expr objective) nothing is_number) (λ n h. finds-last _ _ _ ((tells-block t).finds sc) (λ rest. never-ok _))

search-finds : (t : Option SearchTree) (sc : Scope) → Finds (search t sc) (InSearch sc t)
search-finds None sc = never-finds _ (never-ok _)
search-finds (Some t) sc = (tells-search t.block).finds (record sc { is_search = true })

pub not_data_is_first_of_models : NotDataIsFirstOfModels
unfolding model
not_data_is_first_of_models t =
    finds-then _ _ _ _ (decls-find t.decls 0 empty_scope) (λ o h. finds-then _ _ _ _ (instr-finds t.instr o.scope) (λ ks i. finds-last _ _ _ (search-finds t.search o.scope) (λ more. never-ok _)))
