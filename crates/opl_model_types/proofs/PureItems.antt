-- Want of memory is no fault of a model.
use Rattle.std.proofs.Common.{◌≡◌, ℕ, ◌&&◌, true, List, [], ◌∷◌, map, Option, None, Some, sym, subst}
use Rattle.opl_tree.specs.declared.expression.ExprTree.{ExprTree}
use Rattle.opl_tree.specs.declared.expression.NameTree.{NameTree}
use Rattle.opl_tree.specs.declared.expression.ParamsTree.{ParamsTree}
use Rattle.opl_tree.specs.declared.expression.PostTree.{PostTree}
use Rattle.opl_tree.specs.declared.expression.SubscriptsTree.{SubscriptsTree}
use Rattle.opl_tree.specs.declared.instruction.BlockTree.{BlockTree}
use Rattle.opl_tree.specs.declared.instruction.InstrTree.{InstrTree}
use Rattle.opl_tree.specs.declared.instruction.InstrTree.TheVariants as instrs
use Rattle.opl_tree.specs.declared.instruction.ItemTree.{ItemTree}
use Rattle.opl_tree.specs.declared.instruction.ItemTree.TheFolds.{fold-roll-ItemTree, fold-roll-ItemsTree, fold-roll-BlockTree, ind-BlockTree, map-ItemTree, map-ItemsTree, map-BlockTree}
use Rattle.opl_tree.specs.declared.instruction.ItemTree.TheOpen.{ItemTree-F, ItemsTree-F, BlockTree-F}
use Rattle.opl_tree.specs.declared.instruction.ItemTree.TheViews.{roll-ItemTree, roll-ItemsTree, roll-BlockTree}
use Rattle.opl_tree.specs.declared.instruction.ItemsTree.{ItemsTree}
use Rattle.opl_tree.specs.declared.instruction.RequiresTree.{RequiresTree}
use Rattle.opl_tree.specs.declared.model.ModelTree.{ModelTree}
use Rattle.opl_tree.specs.declared.search.LabelOp.{LabelOp}
use Rattle.opl_tree.specs.declared.search.OrderTree.{OrderTree}
use Rattle.opl_tree.specs.declared.search.SearchBlockTree.{SearchBlockTree}
use Rattle.opl_tree.specs.declared.search.SearchTree.{SearchTree}
use Rattle.opl_tree.specs.declared.search.StatementTree.{StatementTree}
use Rattle.opl_tree.specs.declared.search.StatementTree.TheFolds.{fold-roll-StatementTree, fold-roll-StatementsTree, fold-roll-SearchBlockTree, ind-SearchBlockTree, map-StatementTree, map-StatementsTree, map-SearchBlockTree}
use Rattle.opl_tree.specs.declared.search.StatementTree.TheOpen.{StatementTree-F, StatementsTree-F, SearchBlockTree-F}
use Rattle.opl_tree.specs.declared.search.StatementTree.TheViews.{roll-StatementTree, roll-StatementsTree, roll-SearchBlockTree}
use Rattle.opl_tree.specs.declared.search.StatementsTree.{StatementsTree}
use Rattle.opl_type_rules.specs.declared.fault.TypeFault.TheVariants.{Unknown, Mismatch}
use Rattle.opl_type_rules.specs.Types.{is_number, is_truth, is_activity}
use Rattle.opl_type_rules.specs.Scope.{Scope, Thing, empty_scope, lookup}
use Rattle.opl_type_rules.specs.Forms.{form_expr, form_add, form_post, form_subscripts, form_params, forms_of}
use Rattle.opl_type_rules.specs.Expressions.{Need}
use Rattle.opl_type_rules.specs.Expressions.Need.{nothing, data_alone, data_or_questions}
use Rattle.opl_item_types.specs.Items.{Looked, each, if_written, within, condition, precedes, known, subscript_nodes, is_resource, requires, item_layer, items_layer, block_layer, item, items, block, is_labelled, label, order, statement_layer, statements_layer, search_block_layer, statement, statements, search_block, search, instr}
use Rattle.opl_model_types.specs.Models.{model}
use Rattle.opl_model_types.specs.Laws.{NeverMemory}
use Rattle.opl_expression_types.proofs.Pure.{Real, real_ok, real_err, real_never, real_then, real_unless, real_used, real_part, real_typing, real_typed_parts, real_open_params}
use Rattle.opl_model_types.proofs.PureDecls.{real_maybe_number, real_all_decls}

-- in each scope, no want of memory
abbrev AlwaysReal : Looked → Type 0
AlwaysReal l = (sc : Scope) → Real (l sc)

-- ---- one after the other

real_none : AlwaysReal (each [])
real_none sc = real_ok []

real_more : (l : Looked) (ls : List Looked) → AlwaysReal l → AlwaysReal (each ls) → AlwaysReal (each (l ∷ ls))
real_more l ls h g sc = real_then _ _ (h sc) (λ first. real_then _ _ (g sc) (λ rest. real_ok _))

real_two : (f g : Looked) → AlwaysReal f → AlwaysReal g → AlwaysReal (each (f ∷ g ∷ []))
real_two f g h i = real_more f (g ∷ []) h (real_more g [] i real_none)

real_three : (f g l : Looked) → AlwaysReal f → AlwaysReal g → AlwaysReal l → AlwaysReal (each (f ∷ g ∷ l ∷ []))
real_three f g l h i j = real_more f (g ∷ l ∷ []) h (real_two g l i j)

-- what is known of a part: no want of memory is its fault
abbrev Known : {T : Type 0} → (T → Looked) → Type 0
Known {T} f = (t : T) × AlwaysReal (f t)

real_each : {T : Type 0} (f : T → Looked) (es : List (Known f)) → AlwaysReal (each (map f (map (λ e. e.0) es)))
real_each f [] = real_none
real_each f (e ∷ es) = real_more (f e.0) (map f (map (λ e. e.0) es)) e.1 (real_each f es)

real_within : (need : Need) (params : ParamsTree) (inner : Looked) → AlwaysReal inner → AlwaysReal (within need params inner)
real_within need params inner h sc = real_then _ _ (real_open_params (form_params params) need sc) (λ opened. real_then _ _ (h opened.scope) (λ rest. real_ok _))

real_condition : (need : Need) (t : ExprTree) → AlwaysReal (condition need t)
real_condition need t sc = real_then _ _ (real_used need is_truth _ (real_typing (form_expr t) sc)) (λ n. real_ok _)

real_precedes : (at : ℕ) (first second : PostTree) → AlwaysReal (precedes at first second)
real_precedes at first second sc =
    real_then _ _ (real_part _ (real_typing (form_post first) sc)) (λ m. real_then _ _ (real_part _ (real_typing (form_post second) sc)) (λ n. real_then _ _ (real_unless (is_activity m.sort && is_activity n.sort) (Mismatch at) tt) (λ u. real_ok _)))

-- a tree whose one layer, over parts of which this is known, has no want of memory
real_layer : {F : Type 0} (layer : F → Looked) (looked : Looked) (x y : F) → looked ≡ layer x → y ≡ x → AlwaysReal (layer y) → AlwaysReal looked
real_layer layer looked x y rolled is h = subst AlwaysReal (sym rolled) (subst (λ z. AlwaysReal (layer z)) is h)

-- ---- resources

real_resource : (name : NameTree) (thing : Option Thing) → Real (known name thing)
real_resource name None = real_err _ (Unknown name.at) tt
real_resource name (Some thing) = real_ok thing

real_subscripts : (sc : Scope) (t : Option SubscriptsTree) → Real (subscript_nodes sc t)
real_subscripts sc None = real_ok []
real_subscripts sc (Some t) = real_typed_parts (forms_of (form_subscripts t)) sc

real_requires : (t : RequiresTree) → AlwaysReal (requires t)
real_requires t sc =
    real_then _ _ (real_part _ (real_typing (form_post t.activity) sc)) (λ n. real_then _ _ (real_maybe_number sc t.demand) (λ demand. real_then _ _ (real_resource t.resource (lookup sc t.resource.text)) (λ thing.
    real_then _ _ (real_subscripts sc t.subscripts) (λ ns. real_then _ _ (real_unless (is_activity n.sort && is_resource sc t ns thing) (Mismatch t.at) tt) (λ u. real_ok _)))))

-- ---- items

abbrev item_inner : ItemTree-F (Known item) (Known items) (Known block) → ItemTree-F ItemTree ItemsTree BlockTree
item_inner = map-ItemTree (Known item) (Known items) (Known block) ItemTree ItemsTree BlockTree (λ e. e.0) (λ e. e.0) (λ e. e.0)

abbrev items_inner : ItemsTree-F (Known item) (Known items) (Known block) → ItemsTree-F ItemTree ItemsTree BlockTree
items_inner = map-ItemsTree (Known item) (Known items) (Known block) ItemTree ItemsTree BlockTree (λ e. e.0) (λ e. e.0) (λ e. e.0)

abbrev block_inner : BlockTree-F (Known item) (Known items) (Known block) → BlockTree-F ItemTree ItemsTree BlockTree
block_inner = map-BlockTree (Known item) (Known items) (Known block) ItemTree ItemsTree BlockTree (λ e. e.0) (λ e. e.0) (λ e. e.0)

-- one layer of each
abbrev pub item_of : ItemTree-F ItemTree ItemsTree BlockTree → Looked
item_of x = item_layer (map-ItemTree ItemTree ItemsTree BlockTree Looked Looked Looked item items block x)

abbrev pub items_of : ItemsTree-F ItemTree ItemsTree BlockTree → Looked
items_of x = items_layer (map-ItemsTree ItemTree ItemsTree BlockTree Looked Looked Looked item items block x)

abbrev pub block_of : BlockTree-F ItemTree ItemsTree BlockTree → Looked
block_of x = block_layer (map-BlockTree ItemTree ItemsTree BlockTree Looked Looked Looked item items block x)

pub item-roll : (x : ItemTree-F ItemTree ItemsTree BlockTree) → item (roll-ItemTree x) ≡ item_of x
unfolding item items block
item-roll x = fold-roll-ItemTree Looked Looked Looked item_layer items_layer block_layer x

pub items-roll : (x : ItemsTree-F ItemTree ItemsTree BlockTree) → items (roll-ItemsTree x) ≡ items_of x
unfolding item items block
items-roll x = fold-roll-ItemsTree Looked Looked Looked item_layer items_layer block_layer x

pub block-roll : (x : BlockTree-F ItemTree ItemsTree BlockTree) → block (roll-BlockTree x) ≡ block_of x
unfolding item items block
block-roll x = fold-roll-BlockTree Looked Looked Looked item_layer items_layer block_layer x

real_item : (y : ItemTree-F (Known item) (Known items) (Known block)) → AlwaysReal (item_of (item_inner y))
real_item (ItemTree-F.Block inner) = inner.1
real_item (ItemTree-F.ForAll at params body) = real_within data_alone params (item body.0) body.1
real_item (ItemTree-F.If at test holds None) = real_three (condition data_alone test) (items holds.0) (if_written None) (real_condition data_alone test) holds.1 real_none
real_item (ItemTree-F.If at test holds (Some fails)) = real_three (condition data_alone test) (items holds.0) (items fails.0) (real_condition data_alone test) holds.1 fails.1
real_item (ItemTree-F.Precedes at first second) = real_precedes at first second
real_item (ItemTree-F.Requires t) = real_requires t
real_item (ItemTree-F.Constraint t) = real_condition nothing t

real_items : (y : ItemsTree-F (Known item) (Known items) (Known block)) → AlwaysReal (items_of (items_inner y))
real_items (ItemsTree-F.Empty at) = real_none
real_items (ItemsTree-F.Several at first rest is_closed) = real_each item (first ∷ rest)

real_in_block : (y : BlockTree-F (Known item) (Known items) (Known block)) → AlwaysReal (block_of (block_inner y))
real_in_block y = y.items.1

real_block : (t : BlockTree) → AlwaysReal (block t)
real_block = ind-BlockTree (λ t. AlwaysReal (item t)) (λ t. AlwaysReal (items t)) (λ t. AlwaysReal (block t))
    (λ x y is. real_layer item_of _ x _ (item-roll x) is (real_item y))
    (λ x y is. real_layer items_of _ x _ (items-roll x) is (real_items y))
    (λ x y is. real_layer block_of _ x _ (block-roll x) is (real_in_block y))

-- ---- the search section

real_label : (at : ℕ) (op : LabelOp) (t : PostTree) → AlwaysReal (label at op t)
real_label at op t sc = real_then _ _ (real_part _ (real_typing (form_post t) sc)) (λ n. real_then _ _ (real_unless (is_labelled op n) (Mismatch at) tt) (λ u. real_ok _))

real_order : (t : Option OrderTree) → AlwaysReal (order t)
real_order None sc = real_ok []
real_order (Some t) sc = real_then _ _ (real_used data_or_questions is_number _ (real_typing (form_add t.key) sc)) (λ n. real_ok _)

abbrev statement_inner : StatementTree-F (Known statement) (Known statements) (Known search_block) → StatementTree-F StatementTree StatementsTree SearchBlockTree
statement_inner = map-StatementTree (Known statement) (Known statements) (Known search_block) StatementTree StatementsTree SearchBlockTree (λ e. e.0) (λ e. e.0) (λ e. e.0)

abbrev statements_inner : StatementsTree-F (Known statement) (Known statements) (Known search_block) → StatementsTree-F StatementTree StatementsTree SearchBlockTree
statements_inner = map-StatementsTree (Known statement) (Known statements) (Known search_block) StatementTree StatementsTree SearchBlockTree (λ e. e.0) (λ e. e.0) (λ e. e.0)

abbrev search_inner : SearchBlockTree-F (Known statement) (Known statements) (Known search_block) → SearchBlockTree-F StatementTree StatementsTree SearchBlockTree
search_inner = map-SearchBlockTree (Known statement) (Known statements) (Known search_block) StatementTree StatementsTree SearchBlockTree (λ e. e.0) (λ e. e.0) (λ e. e.0)

-- one layer of each
abbrev pub statement_of : StatementTree-F StatementTree StatementsTree SearchBlockTree → Looked
statement_of x = statement_layer (map-StatementTree StatementTree StatementsTree SearchBlockTree Looked Looked Looked statement statements search_block x)

abbrev pub statements_of : StatementsTree-F StatementTree StatementsTree SearchBlockTree → Looked
statements_of x = statements_layer (map-StatementsTree StatementTree StatementsTree SearchBlockTree Looked Looked Looked statement statements search_block x)

abbrev pub search_of : SearchBlockTree-F StatementTree StatementsTree SearchBlockTree → Looked
search_of x = search_block_layer (map-SearchBlockTree StatementTree StatementsTree SearchBlockTree Looked Looked Looked statement statements search_block x)

pub statement-roll : (x : StatementTree-F StatementTree StatementsTree SearchBlockTree) → statement (roll-StatementTree x) ≡ statement_of x
unfolding statement statements search_block
statement-roll x = fold-roll-StatementTree Looked Looked Looked statement_layer statements_layer search_block_layer x

pub statements-roll : (x : StatementsTree-F StatementTree StatementsTree SearchBlockTree) → statements (roll-StatementsTree x) ≡ statements_of x
unfolding statement statements search_block
statements-roll x = fold-roll-StatementsTree Looked Looked Looked statement_layer statements_layer search_block_layer x

pub search-roll : (x : SearchBlockTree-F StatementTree StatementsTree SearchBlockTree) → search_block (roll-SearchBlockTree x) ≡ search_of x
unfolding statement statements search_block
search-roll x = fold-roll-SearchBlockTree Looked Looked Looked statement_layer statements_layer search_block_layer x

real_statement : (y : StatementTree-F (Known statement) (Known statements) (Known search_block)) → AlwaysReal (statement_of (statement_inner y))
real_statement (StatementTree-F.Block inner) = inner.1
real_statement (StatementTree-F.Try at first second others) = real_each statements (first ∷ second ∷ others)
real_statement (StatementTree-F.Branch at op params body) =
    real_within data_or_questions params.params (each (order params.order ∷ statement body.0 ∷ [])) (real_two (order params.order) (statement body.0) (real_order params.order) body.1)
real_statement (StatementTree-F.Once at body) = body.1
real_statement (StatementTree-F.While at test body) = real_two (condition data_or_questions test) (statement body.0) (real_condition data_or_questions test) body.1
real_statement (StatementTree-F.If at test holds None) = real_three (condition data_or_questions test) (statements holds.0) (if_written None) (real_condition data_or_questions test) holds.1 real_none
real_statement (StatementTree-F.If at test holds (Some fails)) = real_three (condition data_or_questions test) (statements holds.0) (statements fails.0) (real_condition data_or_questions test) holds.1 fails.1
real_statement (StatementTree-F.Label at op t) = real_label at op t
real_statement (StatementTree-F.Precedes at first second) = real_precedes at first second
real_statement (StatementTree-F.Constraint t) = real_condition nothing t

real_statements : (y : StatementsTree-F (Known statement) (Known statements) (Known search_block)) → AlwaysReal (statements_of (statements_inner y))
real_statements (StatementsTree-F.Empty at) = real_none
real_statements (StatementsTree-F.Several at first rest is_closed) = real_each statement (first ∷ rest)

real_in_search : (y : SearchBlockTree-F (Known statement) (Known statements) (Known search_block)) → AlwaysReal (search_of (search_inner y))
real_in_search y = y.statements.1

real_search_block : (t : SearchBlockTree) → AlwaysReal (search_block t)
real_search_block = ind-SearchBlockTree (λ t. AlwaysReal (statement t)) (λ t. AlwaysReal (statements t)) (λ t. AlwaysReal (search_block t))
    (λ x y is. real_layer statement_of _ x _ (statement-roll x) is (real_statement y))
    (λ x y is. real_layer statements_of _ x _ (statements-roll x) is (real_statements y))
    (λ x y is. real_layer search_of _ x _ (search-roll x) is (real_in_search y))

real_search : (t : Option SearchTree) → AlwaysReal (search t)
real_search None sc = real_ok []
real_search (Some t) sc = real_search_block t.block (record sc { is_search = true })

-- ---- models

real_instr : (t : InstrTree) → AlwaysReal (instr t)
real_instr (instrs.Solve at t) sc = real_block t sc
real_instr (instrs.Optimize at optimum objective t) sc =
    real_then _ _ (real_used nothing is_number _ (real_typing (form_expr objective) sc)) (λ n. real_then _ _ (real_block t sc) (λ rest. real_ok _))

-- each fault of a model is one of the rules'
pub real_model : (t : ModelTree) → Real (model t)
unfolding model
real_model t =
    real_then _ _ (real_all_decls t.decls 0 empty_scope) (λ opened. real_then _ _ (real_instr t.instr opened.scope) (λ middle. real_then _ _ (real_search t.search opened.scope) (λ last. real_ok _)))

pub never_memory : NeverMemory
never_memory t = real_never (model t) (real_model t)
