-- The walk over a model takes the types that typing lists for it, and finds the fields that it names: declarations, items and statements, one after the other.
use Rattle.std.proofs.Common.{◌≡◌, ℕ, true, ◌&&◌, not, List, [], ◌∷◌, ◌++◌, map, Option, None, Some, Ok, refl, ap, sym, subst}
use Rattle.opl_tree.specs.declared.declaration.BoundsTree.{BoundsTree}
use Rattle.opl_tree.specs.declared.declaration.DeclTree.{DeclTree}
use Rattle.opl_tree.specs.declared.declaration.DeclTree.TheVariants as decls
use Rattle.opl_tree.specs.declared.declaration.DimTree.{DimTree}
use Rattle.opl_tree.specs.declared.declaration.DimsTree.{DimsTree}
use Rattle.opl_tree.specs.declared.expression.AddTree.{AddTree}
use Rattle.opl_tree.specs.declared.expression.ExprTree.{ExprTree}
use Rattle.opl_tree.specs.declared.expression.NameTree.{NameTree}
use Rattle.opl_tree.specs.declared.expression.ParamsTree.{ParamsTree}
use Rattle.opl_tree.specs.declared.expression.PostTree.{PostTree}
use Rattle.opl_tree.specs.declared.expression.SubscriptsTree.{SubscriptsTree}
use Rattle.opl_tree.specs.declared.instruction.BlockTree.{BlockTree}
use Rattle.opl_tree.specs.declared.instruction.InstrTree.{InstrTree}
use Rattle.opl_tree.specs.declared.instruction.InstrTree.TheVariants as instrs
use Rattle.opl_tree.specs.declared.instruction.ItemTree.{ItemTree}
use Rattle.opl_tree.specs.declared.instruction.ItemTree.TheFolds.{fold-roll-ItemTree, fold-roll-ItemsTree, fold-roll-BlockTree, ind-BlockTree, map-ItemTree, map-ItemsTree, map-BlockTree}
use Rattle.opl_tree.specs.declared.instruction.ItemTree.TheViews.{roll-ItemTree, roll-ItemsTree, roll-BlockTree}
use Rattle.opl_tree.specs.declared.instruction.ItemTree.TheOpen.{ItemTree-F, ItemsTree-F, BlockTree-F}
use Rattle.opl_tree.specs.declared.instruction.ItemsTree.{ItemsTree}
use Rattle.opl_tree.specs.declared.instruction.RequiresTree.{RequiresTree}
use Rattle.opl_tree.specs.declared.search.LabelOp.{LabelOp}
use Rattle.opl_tree.specs.declared.search.OrderTree.{OrderTree}
use Rattle.opl_tree.specs.declared.search.SearchBlockTree.{SearchBlockTree}
use Rattle.opl_tree.specs.declared.search.SearchTree.{SearchTree}
use Rattle.opl_tree.specs.declared.search.StatementTree.{StatementTree}
use Rattle.opl_tree.specs.declared.search.StatementTree.TheFolds.{fold-roll-StatementTree, fold-roll-StatementsTree, fold-roll-SearchBlockTree, ind-SearchBlockTree, map-StatementTree, map-StatementsTree, map-SearchBlockTree}
use Rattle.opl_tree.specs.declared.search.StatementTree.TheViews.{roll-StatementTree, roll-StatementsTree, roll-SearchBlockTree}
use Rattle.opl_tree.specs.declared.search.StatementTree.TheOpen.{StatementTree-F, StatementsTree-F, SearchBlockTree-F}
use Rattle.opl_tree.specs.declared.search.StatementsTree.{StatementsTree}
use Rattle.opl_term.specs.Terms.{subscripts_terms}
use Rattle.opl_type_rules.specs.declared.fault.TypeFault.TheVariants.{Duplicate, Mismatch}
use Rattle.opl_type_rules.specs.Types.{Sort, is_number, is_set, is_truth, is_activity}
use Rattle.opl_type_rules.specs.Scope.{Scope, and_then, fresh, all_fresh, empty_scope, lookup}
use Rattle.opl_type_rules.specs.Forms.{form_expr, form_add, form_post, form_set, form_subscripts, form_params}
use Rattle.opl_type_rules.specs.Expressions.{Node, Need, Opened, kinds, kinds_in, used, part, or_anything, typing, typed_set, open_params}
use Rattle.opl_type_rules.specs.Expressions.Need.{nothing, data_alone, data_or_questions}
use Rattle.opl_model_types.specs.Declarations.{Dimensions, Shape, no_dimensions, with_dimension, fresh_in, dimensions, shape, written_type, cell_indices, initial_kinds, number_kinds, maybe_number, bounds_kinds, variable_type, is_decidable, is_given, field_list, decl, next, all_decls}
use Rattle.opl_model_types.specs.Models as typing_of
use Rattle.opl_model_types.specs.Models.{Looked, within, condition, precedes, known, subscript_nodes, is_resource, is_labelled, requires, item, items, block, label, order, statement, statements, search_block, search, instr, model}
use Rattle.opl_model_types.proofs.PureItems.{item_of, items_of, block_of, item-roll, items-roll, block-roll, statement_of, statements_of, search_of, statement-roll, statements-roll, search-roll}
use Rattle.opl_fields.specs.Walk.{Pass, each, walk}
use Rattle.opl_fields.specs.Trees.{walk_expr, walk_add, walk_post, walk_params, walk_subscripts, walk_if_written, walk_dim, walk_dims, walk_initial, walk_bounds, walk_decl, walk_requires, walk_order, item_layer, items_layer, block_layer, statement_layer, statements_layer, search_block_layer, walk_item, walk_items, walk_block, walk_statement, walk_statements, walk_search_block, walk_instr, walk_search, walk_model}
use Rattle.opl_fields.specs.declared.place.FieldPlace.{FieldPlace}
use Rattle.opl_fields.specs.Typed.{form_fields, parts_fields, set_fields, params_fields, scope_behind}
use Rattle.opl_fields.specs.Whole.{Named, in_turn, if_written, in_expr, in_add, in_post, in_add_if_written, in_subscripts, behind_params, in_dim, in_dims, scope_inside, behind_dims, in_initial, in_bounds, in_decl, in_decls, in_requires, item_named, items_named, block_named, in_item, in_items, in_block, in_instr, in_order, statement_named, statements_named, search_block_named, in_statement, in_statements, in_search_block, in_search, model_fields}
use Rattle.opl_fields.specs.Laws.{WalkFindsAll}
use Rattle.opl_fields.proofs.Items.{walk_item-roll, walk_items-roll, walk_block-roll}
use Rattle.opl_fields.proofs.Statements.{walk_statement-roll, walk_statements-roll, walk_search_block-roll}
use Rattle.opl_fields.proofs.Taken.{Takes, takes-none, takes-both, went, unless-then, same, used-is, part-is, parts-follow}
use Rattle.opl_fields.proofs.Followed.{follows-expr, follows-add, follows-post, follows-set, follows-params, follows-subscripts}
use Rattle.opl_fields.proofs.Asked.{takes-typed}
use Rattle.opl_fields.proofs.Starts.{starts-initial}

module _ (ds : List DeclTree) where
  -- ---- declarations

  takes-number : (t : AddTree) (sc : Scope) (ks : List Sort) → number_kinds sc t ≡ Ok ks → Takes (walk_add ds t) ks (in_add ds t sc)
  takes-number t sc ks h = takes-typed ds (form_add t) (walk_add ds t) (follows-add ds t) sc data_alone is_number ks h

  takes-maybe : (t : Option AddTree) (sc : Scope) (ks : List Sort) → maybe_number sc t ≡ Ok ks → Takes (walk_if_written ds t) ks (in_add_if_written ds t sc)
  takes-maybe None sc ks h = subst (λ ks. Takes (λ s. s) ks []) (same [] ks h) takes-none
  takes-maybe (Some t) sc ks h = takes-number t sc ks h

  with-kinds : (name : Option NameTree) (s : Sort) (ks : List Sort) (rest : Dimensions) → (with_dimension name s ks rest).kinds ≡ ks ++ rest.kinds
  with-kinds None s ks rest = refl
  with-kinds (Some name) s ks rest = refl

  takes-dims : (ts : List DimTree) (sc taken : Scope) (d : Dimensions) → dimensions sc taken ts ≡ Ok d → Takes (each (map (walk_dim ds) ts)) d.kinds (in_turn (map (in_dim ds) ts) sc)
  takes-dims [] sc taken d h = subst (λ d. Takes (λ s. s) d.kinds []) (same no_dimensions d h) takes-none
  takes-dims (t ∷ ts) sc taken d h =
      let w = went (fresh_in taken t.name) _ d h in
      let x = went (typed_set data_alone is_set sc (form_set t.set)) _ d w.2 in
      let y = went (dimensions sc w.0 ts) _ d x.2 in
      let g : Pass = each (map (walk_dim ds) ts) in
      let a : List FieldPlace = in_dim ds t sc in
      let b : List FieldPlace = in_turn (map (in_dim ds) ts) sc in
      subst (λ d. Takes (λ s. g (walk_dim ds t s)) d.kinds (a ++ b)) (same _ d y.2)
      (subst (λ ks. Takes (λ s. g (walk_dim ds t s)) ks (a ++ b)) (sym (with-kinds t.name (or_anything x.0.element) (kinds_in x.0.nodes) y.0))
      (takes-both (walk_dim ds t) g (kinds_in x.0.nodes) y.0.kinds a b (follows-set ds t.set data_alone is_set sc x.0 x.1) (takes-dims ts sc w.0 y.0 y.1)))

  takes-shape : (t : Option DimsTree) (sc : Scope) (sh : Shape) → shape sc t ≡ Ok sh → Takes (walk_dims ds t) sh.dims.kinds (in_dims ds t sc)
  takes-shape None sc sh h = subst (λ sh. Takes (λ s. s) sh.dims.kinds []) (same (record { dims = no_dimensions; inner = sc }) sh h) takes-none
  takes-shape (Some t) sc sh h =
      let w = went (dimensions sc sc (t.first ∷ t.rest)) _ sh h in
      subst (λ sh. Takes (each (map (walk_dim ds) (t.first ∷ t.rest))) sh.dims.kinds (in_turn (map (in_dim ds) (t.first ∷ t.rest)) sc)) (same _ sh w.2) (takes-dims (t.first ∷ t.rest) sc sc w.0 w.1)

  takes-two : (t u : AddTree) (sc : Scope) (ks ms : List Sort) → number_kinds sc t ≡ Ok ks → number_kinds sc u ≡ Ok ms → Takes (λ s. walk_add ds u (walk_add ds t s)) (ks ++ ms) (in_add ds t sc ++ in_add ds u sc)
  takes-two t u sc ks ms h g = takes-both (walk_add ds t) (walk_add ds u) ks ms (in_add ds t sc) (in_add ds u sc) (takes-number t sc ks h) (takes-number u sc ms g)

  takes-bounds : (t : Option BoundsTree) (sc : Scope) (ks : List Sort) → bounds_kinds sc t ≡ Ok ks → Takes (walk_bounds ds t) ks (in_bounds ds t sc)
  takes-bounds None sc ks h = subst (λ ks. Takes (λ s. s) ks []) (same [] ks h) takes-none
  takes-bounds (Some t) sc ks h =
      let w = went (number_kinds sc t.low) _ ks h in
      let x = went (number_kinds sc t.high) _ ks w.2 in
      subst (λ ks. Takes (walk_bounds ds (Some t)) ks (in_bounds ds (Some t) sc)) (same _ ks x.2) (takes-two t.low t.high sc w.0 x.0 w.1 x.1)

  -- dimensions, and what stands behind them
  takes-behind : (t : Option DimsTree) (sc : Scope) (sh : Shape) → shape sc t ≡ Ok sh → (g : Pass) (ks : List Sort) (inner : Named) → Takes g ks (inner sh.inner) →
      Takes (λ s. g (walk_dims ds t s)) (sh.dims.kinds ++ ks) (behind_dims ds t inner sc)
  takes-behind t sc sh h g ks inner p =
      takes-both (walk_dims ds t) g sh.dims.kinds ks (in_dims ds t sc) (inner (scope_inside ds sc (shape sc t))) (takes-shape t sc sh h)
      (subst (λ z. Takes g ks (inner z)) (sym (ap (scope_inside ds sc) h)) p)

  takes-decl : (t : DeclTree) (k : ℕ) (sc : Scope) (o : Opened) → decl k sc t ≡ Ok o → Takes (walk_decl ds t) o.kinds (in_decl ds t sc)
  unfolding decl
  takes-decl (decls.Data t) k sc o h =
      let v = went (written_type t.kind sc) _ o h in
      let w = went (fresh sc t.name) _ o v.2 in
      let x = went (shape sc t.dims) _ o w.2 in
      let y = went (initial_kinds x.0.inner v.0 (cell_indices x.0.dims) t.initial) _ o x.2 in
      subst (λ o. Takes (walk_decl ds (decls.Data t)) o.kinds (in_decl ds (decls.Data t) sc)) (same _ o y.2)
      (takes-behind t.dims sc x.0 x.1 (walk_initial ds t.initial) y.0 (in_initial ds t.initial) (starts-initial ds t.initial x.0.inner v.0 (cell_indices x.0.dims) y.0 y.1))
  takes-decl (decls.Range t) k sc o h =
      let w = went (fresh sc t.name) _ o h in
      let x = went (number_kinds sc t.low) _ o w.2 in
      let y = went (number_kinds sc t.high) _ o x.2 in
      subst (λ o. Takes (walk_decl ds (decls.Range t)) o.kinds (in_decl ds (decls.Range t) sc)) (same _ o y.2) (takes-two t.low t.high sc x.0 y.0 x.1 y.1)
  takes-decl (decls.Enumeration t) k sc o h =
      let w = went (all_fresh sc _) _ o h in
      subst (λ o. Takes (λ s. s) o.kinds []) (same _ o w.2) takes-none
  takes-decl (decls.Structure t) k sc o h =
      let w = went (fresh sc t.name) _ o h in
      let x = went (field_list sc empty_scope (t.first ∷ t.rest)) _ o w.2 in
      subst (λ o. Takes (λ s. s) o.kinds []) (same _ o x.2) takes-none
  takes-decl (decls.Variable t) k sc o h =
      let v = went (variable_type sc t.kind) _ o h in
      let w = went (fresh sc t.name) _ o v.2 in
      let x = went (shape sc t.dims) _ o w.2 in
      let y = went (bounds_kinds x.0.inner t.bounds) _ o x.2 in
      let z = unless-then (is_decidable t.kind t.bounds v.0) (Mismatch t.at) _ o y.2 in
      subst (λ o. Takes (walk_decl ds (decls.Variable t)) o.kinds (in_decl ds (decls.Variable t) sc)) (same _ o z)
      (takes-behind t.dims sc x.0 x.1 (walk_bounds ds t.bounds) y.0 (in_bounds ds t.bounds) (takes-bounds t.bounds x.0.inner y.0 y.1))
  takes-decl (decls.Activity t) k sc o h =
      let w = went (fresh sc t.name) _ o h in
      let x = went (shape sc t.dims) _ o w.2 in
      let y = went (number_kinds x.0.inner t.shortest) _ o x.2 in
      let z = went (maybe_number x.0.inner t.longest) _ o y.2 in
      subst (λ o. Takes (walk_decl ds (decls.Activity t)) o.kinds (in_decl ds (decls.Activity t) sc)) (same _ o z.2)
      (takes-behind t.dims sc x.0 x.1 (λ s. walk_if_written ds t.longest (walk_add ds t.shortest s)) (y.0 ++ z.0) (λ sc. in_add ds t.shortest sc ++ in_add_if_written ds t.longest sc)
      (takes-both (walk_add ds t.shortest) (walk_if_written ds t.longest) y.0 z.0 (in_add ds t.shortest x.0.inner) (in_add_if_written ds t.longest x.0.inner) (takes-number t.shortest x.0.inner y.0 y.1) (takes-maybe t.longest x.0.inner z.0 z.1)))
  takes-decl (decls.Unary t) k sc o h =
      let w = went (fresh sc t.name) _ o h in
      let x = went (shape sc t.dims) _ o w.2 in
      subst (λ o. Takes (walk_dims ds t.dims) o.kinds (in_dims ds t.dims sc)) (same _ o x.2) (takes-shape t.dims sc x.0 x.1)
  takes-decl (decls.Discrete t) k sc o h =
      let w = went (fresh sc t.name) _ o h in
      let x = went (shape sc t.dims) _ o w.2 in
      let y = went (number_kinds x.0.inner t.capacity) _ o x.2 in
      subst (λ o. Takes (walk_decl ds (decls.Discrete t)) o.kinds (in_decl ds (decls.Discrete t) sc)) (same _ o y.2)
      (takes-behind t.dims sc x.0 x.1 (walk_add ds t.capacity) y.0 (in_add ds t.capacity) (takes-number t.capacity x.0.inner y.0 y.1))
  takes-decl (decls.Schedule t) k sc o h =
      let w = went (number_kinds sc t.value) _ o h in
      let x = unless-then (not (is_given t.end sc)) (Duplicate t.at) _ o w.2 in
      subst (λ o. Takes (walk_add ds t.value) o.kinds (in_add ds t.value sc)) (same _ o x) (takes-number t.value sc w.0 w.1)

  takes-decls : (ts : List DeclTree) (k : ℕ) (sc : Scope) (o : Opened) → all_decls k sc ts ≡ Ok o → Takes (each (map (walk_decl ds) ts)) o.kinds (in_decls ds k ts sc)
  takes-decls [] k sc o h = subst (λ o. Takes (λ s. s) o.kinds []) (same _ o h) takes-none
  takes-decls (t ∷ ts) k sc o h =
      let w = went (decl k sc t) _ o h in
      let x = went (all_decls (next k) w.0.scope ts) _ o w.2 in
      subst (λ o. Takes (each (map (walk_decl ds) (t ∷ ts))) o.kinds (in_decls ds k (t ∷ ts) sc)) (same _ o x.2)
      (takes-both (walk_decl ds t) (each (map (walk_decl ds) ts)) w.0.kinds x.0.kinds (in_decl ds t sc) (in_decls ds (next k) ts (scope_behind sc (decl k sc t))) (takes-decl t k sc w.0 w.1)
      (subst (λ z. Takes (each (map (walk_decl ds) ts)) x.0.kinds (in_decls ds (next k) ts z)) (sym (ap (scope_behind sc) w.1)) (takes-decls ts (next k) w.0.scope x.0 x.1)))

  -- ---- what is looked at

  abbrev Goes : Looked → Pass → Named → Type 0
  Goes l g n = (sc : Scope) (ks : List Sort) → l sc ≡ Ok ks → Takes g ks (n sc)

  goes-none : Goes (typing_of.each []) (λ s. s) (in_turn [])
  goes-none sc ks h = subst (λ ks. Takes (λ s. s) ks []) (same [] ks h) takes-none

  goes-left_out : Goes (typing_of.if_written None) (λ s. s) (if_written None)
  goes-left_out sc ks h = subst (λ ks. Takes (λ s. s) ks []) (same [] ks h) takes-none

  goes-more : (l : Looked) (ls : List Looked) (g h : Pass) (n : Named) (ns : List Named) → Goes l g n → Goes (typing_of.each ls) h (in_turn ns) → Goes (typing_of.each (l ∷ ls)) (λ s. h (g s)) (in_turn (n ∷ ns))
  goes-more l ls g h n ns p q sc ks is =
      let w = went (l sc) _ ks is in
      let x = went (typing_of.each ls sc) _ ks w.2 in
      subst (λ ks. Takes (λ s. h (g s)) ks (n sc ++ in_turn ns sc)) (same _ ks x.2) (takes-both g h w.0 x.0 (n sc) (in_turn ns sc) (p sc w.0 w.1) (q sc x.0 x.1))

  goes-last : (l : Looked) (g : Pass) (n : Named) → Goes l g n → Goes (typing_of.each (l ∷ [])) g (in_turn (n ∷ []))
  goes-last l g n p = goes-more l [] g (λ s. s) n [] p goes-none

  goes-each : {T : Type 0} (f : T → Looked) (g : T → Pass) (n : T → Named) (es : List ((t : T) × Goes (f t) (g t) (n t))) → Goes (typing_of.each (map f (map (λ e. e.0) es))) (each (map g (map (λ e. e.0) es))) (in_turn (map n (map (λ e. e.0) es)))
  goes-each f g n [] = goes-none
  goes-each f g n (e ∷ es) = goes-more (f e.0) (map f (map (λ e. e.0) es)) (g e.0) (each (map g (map (λ e. e.0) es))) (n e.0) (map n (map (λ e. e.0) es)) e.1 (goes-each f g n es)

  goes-within : (need : Need) (params : ParamsTree) (l : Looked) (g : Pass) (n : Named) → Goes l g n → Goes (within need params l) (λ s. g (walk_params ds params s)) (behind_params ds need params n)
  goes-within need params l g n p sc ks h =
      let w = went (open_params need sc (form_params params)) _ ks h in
      let x = went (l w.0.scope) _ ks w.2 in
      subst (λ ks. Takes (λ s. g (walk_params ds params s)) ks (behind_params ds need params n sc)) (same _ ks x.2)
      (takes-both (walk_params ds params) g w.0.kinds x.0 (params_fields ds sc (form_params params)) (n (scope_behind sc (open_params need sc (form_params params)))) (follows-params ds params need sc w.0 w.1)
      (subst (λ z. Takes g x.0 (n z)) (sym (ap (scope_behind sc) w.1)) (p w.0.scope x.0 x.1)))

  goes-condition : (need : Need) (t : ExprTree) → Goes (condition need t) (walk_expr ds t) (in_expr ds t)
  goes-condition need t sc ks h = takes-typed ds (form_expr t) (walk_expr ds t) (follows-expr ds t) sc need is_truth ks h

  takes-part : (t : PostTree) (sc : Scope) (n : Node) → and_then (typing sc (form_post t)) part ≡ Ok n → Takes (walk_post ds t) (kinds n) (in_post ds t sc)
  takes-part t sc n h = follows-post ds t sc n (part-is _ n h)

  goes-precedes : (at : ℕ) (first second : PostTree) → Goes (precedes at first second) (λ s. walk_post ds second (walk_post ds first s)) (λ sc. in_post ds first sc ++ in_post ds second sc)
  goes-precedes at first second sc ks h =
      let w = went (and_then (typing sc (form_post first)) part) _ ks h in
      let x = went (and_then (typing sc (form_post second)) part) _ ks w.2 in
      let y = unless-then (is_activity w.0.sort && is_activity x.0.sort) (Mismatch at) _ ks x.2 in
      subst (λ ks. Takes (λ s. walk_post ds second (walk_post ds first s)) ks (in_post ds first sc ++ in_post ds second sc)) (same _ ks y)
      (takes-both (walk_post ds first) (walk_post ds second) (kinds w.0) (kinds x.0) (in_post ds first sc) (in_post ds second sc) (takes-part first sc w.0 w.1) (takes-part second sc x.0 x.1))

  takes-subscripts : (t : Option SubscriptsTree) (sc : Scope) (ns : List Node) → subscript_nodes sc t ≡ Ok ns → Takes (walk_subscripts ds t) (kinds_in ns) (in_subscripts ds t sc)
  takes-subscripts None sc ns h = subst (λ ns. Takes (λ s. s) (kinds_in ns) []) (same [] ns h) takes-none
  takes-subscripts (Some t) sc ns h = parts-follow ds (form_subscripts t) (map (walk ds) (subscripts_terms t)) (follows-subscripts ds t) sc ns h

  goes-requires : (t : RequiresTree) → Goes (requires t) (walk_requires ds t) (in_requires ds t)
  goes-requires t sc ks h =
      let v = went (and_then (typing sc (form_post t.activity)) part) _ ks h in
      let w = went (maybe_number sc t.demand) _ ks v.2 in
      let x = went (known t.resource (lookup sc t.resource.text)) _ ks w.2 in
      let y = went (subscript_nodes sc t.subscripts) _ ks x.2 in
      let z = unless-then (is_activity v.0.sort && is_resource sc t y.0 x.0) (Mismatch t.at) _ ks y.2 in
      let a : List FieldPlace = in_post ds t.activity sc in
      let b : List FieldPlace = in_add_if_written ds t.demand sc in
      let c : List FieldPlace = in_subscripts ds t.subscripts sc in
      subst (λ ks. Takes (walk_requires ds t) ks (a ++ (b ++ c))) (same _ ks z)
      (takes-both (walk_post ds t.activity) (λ s. walk_subscripts ds t.subscripts (walk_if_written ds t.demand s)) (kinds v.0) (w.0 ++ kinds_in y.0) a (b ++ c) (takes-part t.activity sc v.0 v.1)
      (takes-both (walk_if_written ds t.demand) (walk_subscripts ds t.subscripts) w.0 (kinds_in y.0) b c (takes-maybe t.demand sc w.0 w.1) (takes-subscripts t.subscripts sc y.0 y.1)))

  -- ---- items

  abbrev InItem : Type 0
  InItem = (t : ItemTree) × Goes (item t) (walk_item ds t) (in_item ds t)

  abbrev InItems : Type 0
  InItems = (t : ItemsTree) × Goes (items t) (walk_items ds t) (in_items ds t)

  abbrev InBlock : Type 0
  InBlock = (t : BlockTree) × Goes (block t) (walk_block ds t) (in_block ds t)

  abbrev item_inner : ItemTree-F InItem InItems InBlock → ItemTree-F ItemTree ItemsTree BlockTree
  item_inner = map-ItemTree InItem InItems InBlock ItemTree ItemsTree BlockTree (λ e. e.0) (λ e. e.0) (λ e. e.0)

  abbrev items_inner : ItemsTree-F InItem InItems InBlock → ItemsTree-F ItemTree ItemsTree BlockTree
  items_inner = map-ItemsTree InItem InItems InBlock ItemTree ItemsTree BlockTree (λ e. e.0) (λ e. e.0) (λ e. e.0)

  abbrev block_inner : BlockTree-F InItem InItems InBlock → BlockTree-F ItemTree ItemsTree BlockTree
  block_inner = map-BlockTree InItem InItems InBlock ItemTree ItemsTree BlockTree (λ e. e.0) (λ e. e.0) (λ e. e.0)

  -- the walk over one layer of each
  abbrev item_pass : ItemTree-F ItemTree ItemsTree BlockTree → Pass
  item_pass x = item_layer ds (map-ItemTree ItemTree ItemsTree BlockTree Pass Pass Pass (walk_item ds) (walk_items ds) (walk_block ds) x)

  abbrev items_pass : ItemsTree-F ItemTree ItemsTree BlockTree → Pass
  items_pass x = items_layer (map-ItemsTree ItemTree ItemsTree BlockTree Pass Pass Pass (walk_item ds) (walk_items ds) (walk_block ds) x)

  abbrev block_pass : BlockTree-F ItemTree ItemsTree BlockTree → Pass
  block_pass x = block_layer (map-BlockTree ItemTree ItemsTree BlockTree Pass Pass Pass (walk_item ds) (walk_items ds) (walk_block ds) x)

  -- the fields of one layer of each
  abbrev item_fields : ItemTree-F ItemTree ItemsTree BlockTree → Named
  item_fields x = item_named ds (map-ItemTree ItemTree ItemsTree BlockTree Named Named Named (in_item ds) (in_items ds) (in_block ds) x)

  abbrev items_fields : ItemsTree-F ItemTree ItemsTree BlockTree → Named
  items_fields x = items_named ds (map-ItemsTree ItemTree ItemsTree BlockTree Named Named Named (in_item ds) (in_items ds) (in_block ds) x)

  abbrev block_fields : BlockTree-F ItemTree ItemsTree BlockTree → Named
  block_fields x = block_named ds (map-BlockTree ItemTree ItemsTree BlockTree Named Named Named (in_item ds) (in_items ds) (in_block ds) x)

  in_item-roll : (x : ItemTree-F ItemTree ItemsTree BlockTree) → in_item ds (roll-ItemTree x) ≡ item_fields x
  unfolding in_item in_items in_block
  in_item-roll x = fold-roll-ItemTree Named Named Named (item_named ds) (items_named ds) (block_named ds) x

  in_items-roll : (x : ItemsTree-F ItemTree ItemsTree BlockTree) → in_items ds (roll-ItemsTree x) ≡ items_fields x
  unfolding in_item in_items in_block
  in_items-roll x = fold-roll-ItemsTree Named Named Named (item_named ds) (items_named ds) (block_named ds) x

  in_block-roll : (x : BlockTree-F ItemTree ItemsTree BlockTree) → in_block ds (roll-BlockTree x) ≡ block_fields x
  unfolding in_item in_items in_block
  in_block-roll x = fold-roll-BlockTree Named Named Named (item_named ds) (items_named ds) (block_named ds) x

  goes-item : (y : ItemTree-F InItem InItems InBlock) → Goes (item_of (item_inner y)) (item_pass (item_inner y)) (item_fields (item_inner y))
  goes-item (ItemTree-F.Block inner) = inner.1
  goes-item (ItemTree-F.ForAll at params body) = goes-within data_alone params (item body.0) (walk_item ds body.0) (in_item ds body.0) body.1
  goes-item (ItemTree-F.If at test holds None) =
      goes-more (condition data_alone test) (items holds.0 ∷ typing_of.if_written None ∷ []) (walk_expr ds test) (walk_items ds holds.0) (in_expr ds test) (in_items ds holds.0 ∷ if_written None ∷ []) (goes-condition data_alone test)
      (goes-more (items holds.0) (typing_of.if_written None ∷ []) (walk_items ds holds.0) (λ s. s) (in_items ds holds.0) (if_written None ∷ []) holds.1 (goes-last (typing_of.if_written None) (λ s. s) (if_written None) goes-left_out))
  goes-item (ItemTree-F.If at test holds (Some fails)) =
      goes-more (condition data_alone test) (items holds.0 ∷ items fails.0 ∷ []) (walk_expr ds test) (λ s. walk_items ds fails.0 (walk_items ds holds.0 s)) (in_expr ds test) (in_items ds holds.0 ∷ in_items ds fails.0 ∷ []) (goes-condition data_alone test)
      (goes-more (items holds.0) (items fails.0 ∷ []) (walk_items ds holds.0) (walk_items ds fails.0) (in_items ds holds.0) (in_items ds fails.0 ∷ []) holds.1 (goes-last (items fails.0) (walk_items ds fails.0) (in_items ds fails.0) fails.1))
  goes-item (ItemTree-F.Precedes at first second) = goes-precedes at first second
  goes-item (ItemTree-F.Requires t) = goes-requires t
  goes-item (ItemTree-F.Constraint t) = goes-condition nothing t

  goes-items : (y : ItemsTree-F InItem InItems InBlock) → Goes (items_of (items_inner y)) (items_pass (items_inner y)) (items_fields (items_inner y))
  goes-items (ItemsTree-F.Empty at) = goes-none
  goes-items (ItemsTree-F.Several at first rest is_closed) = goes-each item (walk_item ds) (in_item ds) (first ∷ rest)

  goes-in_block : (y : BlockTree-F InItem InItems InBlock) → Goes (block_of (block_inner y)) (block_pass (block_inner y)) (block_fields (block_inner y))
  goes-in_block y = y.items.1

  -- the same looked at, the same walk, and the same fields
  goes-by : (l m : Looked) (g h : Pass) (a b : Named) → l ≡ m → g ≡ h → a ≡ b → Goes m h b → Goes l g a
  goes-by l m g h a b e f i p = subst (λ (k : Looked). Goes k g a) (sym e) (subst (λ (w : Pass). Goes m w a) (sym f) (subst (λ (n : Named). Goes m h n) (sym i) p))

  goes-block : (t : BlockTree) → Goes (block t) (walk_block ds t) (in_block ds t)
  goes-block = ind-BlockTree (λ t. Goes (item t) (walk_item ds t) (in_item ds t)) (λ t. Goes (items t) (walk_items ds t) (in_items ds t)) (λ t. Goes (block t) (walk_block ds t) (in_block ds t))
      (λ x y is. goes-by _ _ _ _ _ _ (item-roll x) (walk_item-roll ds x) (in_item-roll x) (subst (λ z. Goes (item_of z) (item_pass z) (item_fields z)) is (goes-item y)))
      (λ x y is. goes-by _ _ _ _ _ _ (items-roll x) (walk_items-roll ds x) (in_items-roll x) (subst (λ z. Goes (items_of z) (items_pass z) (items_fields z)) is (goes-items y)))
      (λ x y is. goes-by _ _ _ _ _ _ (block-roll x) (walk_block-roll ds x) (in_block-roll x) (subst (λ z. Goes (block_of z) (block_pass z) (block_fields z)) is (goes-in_block y)))

  goes-instr : (t : InstrTree) → Goes (instr t) (λ s. walk_instr ds t s) (in_instr ds t)
  goes-instr (instrs.Solve at t) sc ks h = goes-block t sc ks h
  goes-instr (instrs.Optimize at optimum objective t) sc ks h =
      let w = went (and_then (typing sc (form_expr objective)) (used nothing is_number)) _ ks h in
      let x = went (block t sc) _ ks w.2 in
      subst (λ ks. Takes (λ s. walk_block ds t (walk_expr ds objective s)) ks (in_expr ds objective sc ++ in_block ds t sc)) (same _ ks x.2)
      (takes-both (walk_expr ds objective) (walk_block ds t) (kinds w.0) x.0 (in_expr ds objective sc) (in_block ds t sc) (follows-expr ds objective sc w.0 (used-is _ nothing is_number w.0 w.1)) (goes-block t sc x.0 x.1))

  -- ---- statements

  goes-order : (t : Option OrderTree) → Goes (order t) (walk_order ds t) (in_order ds t)
  goes-order None sc ks h = subst (λ ks. Takes (λ s. s) ks []) (same [] ks h) takes-none
  goes-order (Some t) sc ks h = takes-typed ds (form_add t.key) (walk_add ds t.key) (follows-add ds t.key) sc data_or_questions is_number ks h

  goes-label : (at : ℕ) (op : LabelOp) (t : PostTree) → Goes (label at op t) (walk_post ds t) (in_post ds t)
  goes-label at op t sc ks h =
      let w = went (and_then (typing sc (form_post t)) part) _ ks h in
      let x = unless-then (is_labelled op w.0) (Mismatch at) _ ks w.2 in
      subst (λ ks. Takes (walk_post ds t) ks (in_post ds t sc)) (same _ ks x) (takes-part t sc w.0 w.1)

  abbrev InStatement : Type 0
  InStatement = (t : StatementTree) × Goes (statement t) (walk_statement ds t) (in_statement ds t)

  abbrev InStatements : Type 0
  InStatements = (t : StatementsTree) × Goes (statements t) (walk_statements ds t) (in_statements ds t)

  abbrev InSearchBlock : Type 0
  InSearchBlock = (t : SearchBlockTree) × Goes (search_block t) (walk_search_block ds t) (in_search_block ds t)

  abbrev statement_inner : StatementTree-F InStatement InStatements InSearchBlock → StatementTree-F StatementTree StatementsTree SearchBlockTree
  statement_inner = map-StatementTree InStatement InStatements InSearchBlock StatementTree StatementsTree SearchBlockTree (λ e. e.0) (λ e. e.0) (λ e. e.0)

  abbrev statements_inner : StatementsTree-F InStatement InStatements InSearchBlock → StatementsTree-F StatementTree StatementsTree SearchBlockTree
  statements_inner = map-StatementsTree InStatement InStatements InSearchBlock StatementTree StatementsTree SearchBlockTree (λ e. e.0) (λ e. e.0) (λ e. e.0)

  abbrev search_block_inner : SearchBlockTree-F InStatement InStatements InSearchBlock → SearchBlockTree-F StatementTree StatementsTree SearchBlockTree
  search_block_inner = map-SearchBlockTree InStatement InStatements InSearchBlock StatementTree StatementsTree SearchBlockTree (λ e. e.0) (λ e. e.0) (λ e. e.0)

  abbrev statement_pass : StatementTree-F StatementTree StatementsTree SearchBlockTree → Pass
  statement_pass x = statement_layer ds (map-StatementTree StatementTree StatementsTree SearchBlockTree Pass Pass Pass (walk_statement ds) (walk_statements ds) (walk_search_block ds) x)

  abbrev statements_pass : StatementsTree-F StatementTree StatementsTree SearchBlockTree → Pass
  statements_pass x = statements_layer (map-StatementsTree StatementTree StatementsTree SearchBlockTree Pass Pass Pass (walk_statement ds) (walk_statements ds) (walk_search_block ds) x)

  abbrev search_block_pass : SearchBlockTree-F StatementTree StatementsTree SearchBlockTree → Pass
  search_block_pass x = search_block_layer (map-SearchBlockTree StatementTree StatementsTree SearchBlockTree Pass Pass Pass (walk_statement ds) (walk_statements ds) (walk_search_block ds) x)

  -- the fields of one layer of each
  abbrev statement_fields : StatementTree-F StatementTree StatementsTree SearchBlockTree → Named
  statement_fields x = statement_named ds (map-StatementTree StatementTree StatementsTree SearchBlockTree Named Named Named (in_statement ds) (in_statements ds) (in_search_block ds) x)

  abbrev statements_fields : StatementsTree-F StatementTree StatementsTree SearchBlockTree → Named
  statements_fields x = statements_named ds (map-StatementsTree StatementTree StatementsTree SearchBlockTree Named Named Named (in_statement ds) (in_statements ds) (in_search_block ds) x)

  abbrev search_block_fields : SearchBlockTree-F StatementTree StatementsTree SearchBlockTree → Named
  search_block_fields x = search_block_named ds (map-SearchBlockTree StatementTree StatementsTree SearchBlockTree Named Named Named (in_statement ds) (in_statements ds) (in_search_block ds) x)

  in_statement-roll : (x : StatementTree-F StatementTree StatementsTree SearchBlockTree) → in_statement ds (roll-StatementTree x) ≡ statement_fields x
  unfolding in_statement in_statements in_search_block
  in_statement-roll x = fold-roll-StatementTree Named Named Named (statement_named ds) (statements_named ds) (search_block_named ds) x

  in_statements-roll : (x : StatementsTree-F StatementTree StatementsTree SearchBlockTree) → in_statements ds (roll-StatementsTree x) ≡ statements_fields x
  unfolding in_statement in_statements in_search_block
  in_statements-roll x = fold-roll-StatementsTree Named Named Named (statement_named ds) (statements_named ds) (search_block_named ds) x

  in_search_block-roll : (x : SearchBlockTree-F StatementTree StatementsTree SearchBlockTree) → in_search_block ds (roll-SearchBlockTree x) ≡ search_block_fields x
  unfolding in_statement in_statements in_search_block
  in_search_block-roll x = fold-roll-SearchBlockTree Named Named Named (statement_named ds) (statements_named ds) (search_block_named ds) x

  goes-statement : (y : StatementTree-F InStatement InStatements InSearchBlock) → Goes (statement_of (statement_inner y)) (statement_pass (statement_inner y)) (statement_fields (statement_inner y))
  goes-statement (StatementTree-F.Block inner) = inner.1
  goes-statement (StatementTree-F.Try at first second others) = goes-each statements (walk_statements ds) (in_statements ds) (first ∷ second ∷ others)
  goes-statement (StatementTree-F.Branch at op params body) =
      goes-within data_or_questions params.params (typing_of.each (order params.order ∷ statement body.0 ∷ [])) (λ s. walk_statement ds body.0 (walk_order ds params.order s)) (in_turn (in_order ds params.order ∷ in_statement ds body.0 ∷ []))
      (goes-more (order params.order) (statement body.0 ∷ []) (walk_order ds params.order) (walk_statement ds body.0) (in_order ds params.order) (in_statement ds body.0 ∷ []) (goes-order params.order) (goes-last (statement body.0) (walk_statement ds body.0) (in_statement ds body.0) body.1))
  goes-statement (StatementTree-F.Once at body) = body.1
  goes-statement (StatementTree-F.While at test body) =
      goes-more (condition data_or_questions test) (statement body.0 ∷ []) (walk_expr ds test) (walk_statement ds body.0) (in_expr ds test) (in_statement ds body.0 ∷ []) (goes-condition data_or_questions test) (goes-last (statement body.0) (walk_statement ds body.0) (in_statement ds body.0) body.1)
  goes-statement (StatementTree-F.If at test holds None) =
      goes-more (condition data_or_questions test) (statements holds.0 ∷ typing_of.if_written None ∷ []) (walk_expr ds test) (walk_statements ds holds.0) (in_expr ds test) (in_statements ds holds.0 ∷ if_written None ∷ []) (goes-condition data_or_questions test)
      (goes-more (statements holds.0) (typing_of.if_written None ∷ []) (walk_statements ds holds.0) (λ s. s) (in_statements ds holds.0) (if_written None ∷ []) holds.1 (goes-last (typing_of.if_written None) (λ s. s) (if_written None) goes-left_out))
  goes-statement (StatementTree-F.If at test holds (Some fails)) =
      goes-more (condition data_or_questions test) (statements holds.0 ∷ statements fails.0 ∷ []) (walk_expr ds test) (λ s. walk_statements ds fails.0 (walk_statements ds holds.0 s)) (in_expr ds test) (in_statements ds holds.0 ∷ in_statements ds fails.0 ∷ []) (goes-condition data_or_questions test)
      (goes-more (statements holds.0) (statements fails.0 ∷ []) (walk_statements ds holds.0) (walk_statements ds fails.0) (in_statements ds holds.0) (in_statements ds fails.0 ∷ []) holds.1 (goes-last (statements fails.0) (walk_statements ds fails.0) (in_statements ds fails.0) fails.1))
  goes-statement (StatementTree-F.Label at op t) = goes-label at op t
  goes-statement (StatementTree-F.Precedes at first second) = goes-precedes at first second
  goes-statement (StatementTree-F.Constraint t) = goes-condition nothing t

  goes-statements : (y : StatementsTree-F InStatement InStatements InSearchBlock) → Goes (statements_of (statements_inner y)) (statements_pass (statements_inner y)) (statements_fields (statements_inner y))
  goes-statements (StatementsTree-F.Empty at) = goes-none
  goes-statements (StatementsTree-F.Several at first rest is_closed) = goes-each statement (walk_statement ds) (in_statement ds) (first ∷ rest)

  goes-in_search_block : (y : SearchBlockTree-F InStatement InStatements InSearchBlock) → Goes (search_of (search_block_inner y)) (search_block_pass (search_block_inner y)) (search_block_fields (search_block_inner y))
  goes-in_search_block y = y.statements.1

  goes-search_block : (t : SearchBlockTree) → Goes (search_block t) (walk_search_block ds t) (in_search_block ds t)
  goes-search_block = ind-SearchBlockTree (λ t. Goes (statement t) (walk_statement ds t) (in_statement ds t)) (λ t. Goes (statements t) (walk_statements ds t) (in_statements ds t)) (λ t. Goes (search_block t) (walk_search_block ds t) (in_search_block ds t))
      (λ x y is. goes-by _ _ _ _ _ _ (statement-roll x) (walk_statement-roll ds x) (in_statement-roll x) (subst (λ z. Goes (statement_of z) (statement_pass z) (statement_fields z)) is (goes-statement y)))
      (λ x y is. goes-by _ _ _ _ _ _ (statements-roll x) (walk_statements-roll ds x) (in_statements-roll x) (subst (λ z. Goes (statements_of z) (statements_pass z) (statements_fields z)) is (goes-statements y)))
      (λ x y is. goes-by _ _ _ _ _ _ (search-roll x) (walk_search_block-roll ds x) (in_search_block-roll x) (subst (λ z. Goes (search_of z) (search_block_pass z) (search_block_fields z)) is (goes-in_search_block y)))

  goes-search : (t : Option SearchTree) → Goes (search t) (λ s. walk_search ds t s) (in_search ds t)
  goes-search None sc ks h = subst (λ ks. Takes (λ s. s) ks []) (same [] ks h) takes-none
  goes-search (Some t) sc ks h = goes-search_block t.block (record sc { is_search = true }) ks h

-- ---- models

pub walk_finds_all : WalkFindsAll
unfolding model walk_model model_fields
walk_finds_all t ks h =
    let w = went (all_decls 0 empty_scope t.decls) _ ks h in
    let x = went (instr t.instr w.0.scope) _ ks w.2 in
    let y = went (search t.search w.0.scope) _ ks x.2 in
    let ds : List DeclTree = t.decls in
    let sc : Scope = scope_behind empty_scope (all_decls 0 empty_scope ds) in
    let e : w.0.scope ≡ sc = sym (ap (scope_behind empty_scope) w.1) in
    let a : List FieldPlace = in_decls ds 0 ds empty_scope in
    let b : List FieldPlace = in_instr ds t.instr sc in
    let c : List FieldPlace = in_search ds t.search sc in
    subst (λ ks. Takes (λ s. walk_search ds t.search (walk_instr ds t.instr (each (map (walk_decl ds) ds) s))) ks (a ++ (b ++ c))) (same _ ks y.2)
    (takes-both (each (map (walk_decl ds) ds)) (λ s. walk_search ds t.search (walk_instr ds t.instr s)) w.0.kinds (x.0 ++ y.0) a (b ++ c) (takes-decls ds ds 0 empty_scope w.0 w.1)
    (takes-both (walk_instr ds t.instr) (walk_search ds t.search) x.0 y.0 b c
    (subst (λ z. Takes (walk_instr ds t.instr) x.0 (in_instr ds t.instr z)) e (goes-instr ds t.instr w.0.scope x.0 x.1))
    (subst (λ z. Takes (walk_search ds t.search) y.0 (in_search ds t.search z)) e (goes-search ds t.search w.0.scope y.0 y.1))))
