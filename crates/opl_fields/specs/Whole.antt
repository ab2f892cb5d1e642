-- The positions of the fields that a whole model names, by the rules of typing alone: each expression in the scope in which typing looks at it, in the order of the text.
use Rattle.std.specs.Prelude.{ℕ, true, List, [], ◌∷◌, ◌++◌, map, Option, Some, None, Ok, Err}
use Rattle.opl_tree.specs.declared.declaration.BoundsTree.{BoundsTree}
use Rattle.opl_tree.specs.declared.declaration.DeclTree.{DeclTree}
use Rattle.opl_tree.specs.declared.declaration.DeclTree.TheVariants as decls
use Rattle.opl_tree.specs.declared.declaration.DimTree.{DimTree}
use Rattle.opl_tree.specs.declared.declaration.DimsTree.{DimsTree}
use Rattle.opl_tree.specs.declared.declaration.InitialTree.{InitialTree}
use Rattle.opl_tree.specs.declared.declaration.InitialTree.TheVariants as initials
use Rattle.opl_tree.specs.declared.expression.AddTree.{AddTree}
use Rattle.opl_tree.specs.declared.expression.ExprTree.{ExprTree}
use Rattle.opl_tree.specs.declared.expression.ParamsTree.{ParamsTree}
use Rattle.opl_tree.specs.declared.expression.PostTree.{PostTree}
use Rattle.opl_tree.specs.declared.expression.SubscriptsTree.{SubscriptsTree}
use Rattle.opl_tree.specs.declared.instruction.BlockTree.{BlockTree}
use Rattle.opl_tree.specs.declared.instruction.InstrTree.{InstrTree}
use Rattle.opl_tree.specs.declared.instruction.InstrTree.TheVariants as instrs
use Rattle.opl_tree.specs.declared.instruction.ItemTree.{ItemTree}
use Rattle.opl_tree.specs.declared.instruction.ItemTree.TheOpen.{ItemTree-F, ItemsTree-F, BlockTree-F}
use Rattle.opl_tree.specs.declared.instruction.ItemTree.TheFolds.{fold-ItemTree, fold-ItemsTree, fold-BlockTree}
use Rattle.opl_tree.specs.declared.instruction.ItemsTree.{ItemsTree}
use Rattle.opl_tree.specs.declared.instruction.RequiresTree.{RequiresTree}
use Rattle.opl_tree.specs.declared.model.ModelTree.{ModelTree}
use Rattle.opl_tree.specs.declared.search.OrderTree.{OrderTree}
use Rattle.opl_tree.specs.declared.search.SearchBlockTree.{SearchBlockTree}
use Rattle.opl_tree.specs.declared.search.SearchTree.{SearchTree}
use Rattle.opl_tree.specs.declared.search.StatementTree.{StatementTree}
use Rattle.opl_tree.specs.declared.search.StatementTree.TheOpen.{StatementTree-F, StatementsTree-F, SearchBlockTree-F}
use Rattle.opl_tree.specs.declared.search.StatementTree.TheFolds.{fold-StatementTree, fold-StatementsTree, fold-SearchBlockTree}
use Rattle.opl_tree.specs.declared.search.StatementsTree.{StatementsTree}
use Rattle.opl_type_rules.specs.Scope.{Checked, Scope, empty_scope}
use Rattle.opl_type_rules.specs.Forms.{forms_of, form_expr, form_add, form_post, form_set, form_subscripts, form_params}
use Rattle.opl_type_rules.specs.Expressions.{Need, open_params}
use Rattle.opl_type_rules.specs.Expressions.Need.{data_alone, data_or_questions}
use Rattle.opl_model_types.specs.Declarations.{Shape, shape, decl, next, all_decls}
use Rattle.opl_fields.specs.declared.place.FieldPlace.{FieldPlace}
use Rattle.opl_fields.specs.Typed.{scope_behind, form_fields, parts_fields, set_fields, params_fields}

-- the fields that a part names in the scope in which it stands
abbrev pub Named : Type 0
Named = Scope → List FieldPlace

-- parts in the same scope, one after the other
abbrev pub in_turn : List Named → Named
in_turn [] sc = []
in_turn (p ∷ ps) sc = p sc ++ in_turn ps sc

abbrev pub if_written : Option Named → Named
if_written None sc = []
if_written (Some p) sc = p sc

module _ (ds : List DeclTree) where
  -- ---- expressions

  abbrev pub in_expr : ExprTree → Named
  in_expr t sc = form_fields ds sc (form_expr t)

  abbrev pub in_add : AddTree → Named
  in_add t sc = form_fields ds sc (form_add t)

  abbrev pub in_post : PostTree → Named
  in_post t sc = form_fields ds sc (form_post t)

  abbrev pub in_add_if_written : Option AddTree → Named
  in_add_if_written None sc = []
  in_add_if_written (Some t) sc = in_add t sc

  abbrev pub in_subscripts : Option SubscriptsTree → Named
  in_subscripts None sc = []
  in_subscripts (Some t) sc = parts_fields ds sc (forms_of (form_subscripts t))

  -- parameters, and then what stands behind them, where their names are visible
  abbrev pub behind_params : Need → ParamsTree → Named → Named
  behind_params need t inner sc = params_fields ds sc (form_params t) ++ inner (scope_behind sc (open_params need sc (form_params t)))

  -- ---- declarations

  abbrev pub in_dim : DimTree → Named
  in_dim t sc = set_fields ds sc (form_set t.set)

  abbrev pub in_dims : Option DimsTree → Named
  in_dims None sc = []
  in_dims (Some t) sc = in_turn (map in_dim (t.first ∷ t.rest)) sc

  -- the scope behind dimensions, where they have no fault
  abbrev pub scope_inside : Scope → Checked Shape → Scope
  scope_inside sc (Ok sh) = sh.inner
  scope_inside sc (Err fault) = sc

  -- dimensions, and then what stands behind them, where their names are visible
  abbrev pub behind_dims : Option DimsTree → Named → Named
  behind_dims t inner sc = in_dims t sc ++ inner (scope_inside sc (shape sc t))

  abbrev pub in_initial : InitialTree → Named
  in_initial (initials.External at) sc = []
  in_initial (initials.Written t) sc = in_add t sc

  abbrev pub in_bounds : Option BoundsTree → Named
  in_bounds None sc = []
  in_bounds (Some t) sc = in_add t.low sc ++ in_add t.high sc

  abbrev pub in_decl : DeclTree → Named
  in_decl (decls.Data t) = behind_dims t.dims (in_initial t.initial)
  in_decl (decls.Range t) = λ sc. in_add t.low sc ++ in_add t.high sc
  in_decl (decls.Enumeration t) = λ sc. []
  in_decl (decls.Structure t) = λ sc. []
  in_decl (decls.Variable t) = behind_dims t.dims (in_bounds t.bounds)
  in_decl (decls.Activity t) = behind_dims t.dims (λ sc. in_add t.shortest sc ++ in_add_if_written t.longest sc)
  in_decl (decls.Unary t) = in_dims t.dims
  in_decl (decls.Discrete t) = behind_dims t.dims (in_add t.capacity)
  in_decl (decls.Schedule t) = in_add t.value

  -- declarations from number k on, each in the scope that those before it leave
  abbrev pub in_decls : ℕ → List DeclTree → Named
  in_decls k [] sc = []
  in_decls k (t ∷ ts) sc = in_decl t sc ++ in_decls (next k) ts (scope_behind sc (decl k sc t))

  -- ---- items

  abbrev pub in_requires : RequiresTree → Named
  in_requires t sc = in_post t.activity sc ++ (in_add_if_written t.demand sc ++ in_subscripts t.subscripts sc)

  abbrev pub item_named : ItemTree-F Named Named Named → Named
  item_named (ItemTree-F.Block inner) = inner
  item_named (ItemTree-F.ForAll at params body) = behind_params data_alone params body
  item_named (ItemTree-F.If at test holds fails) = in_turn (in_expr test ∷ holds ∷ if_written fails ∷ [])
  item_named (ItemTree-F.Precedes at first second) = λ sc. in_post first sc ++ in_post second sc
  item_named (ItemTree-F.Requires t) = in_requires t
  item_named (ItemTree-F.Constraint t) = in_expr t

  abbrev pub items_named : ItemsTree-F Named Named Named → Named
  items_named (ItemsTree-F.Empty at) = in_turn []
  items_named (ItemsTree-F.Several at first rest is_closed) = in_turn (first ∷ rest)

  abbrev pub block_named : BlockTree-F Named Named Named → Named
  block_named t = t.items

  unfoldable pub in_item : ItemTree → Named
  in_item = fold-ItemTree Named Named Named item_named items_named block_named

  unfoldable pub in_items : ItemsTree → Named
  in_items = fold-ItemsTree Named Named Named item_named items_named block_named

  unfoldable pub in_block : BlockTree → Named
  in_block = fold-BlockTree Named Named Named item_named items_named block_named

  abbrev pub in_instr : InstrTree → Named
  in_instr (instrs.Solve at t) = in_block t
  in_instr (instrs.Optimize at optimum objective t) = λ sc. in_expr objective sc ++ in_block t sc

  -- ---- the search section

  abbrev pub in_order : Option OrderTree → Named
  in_order None sc = []
  in_order (Some t) sc = in_add t.key sc

  abbrev pub statement_named : StatementTree-F Named Named Named → Named
  statement_named (StatementTree-F.Block inner) = inner
  statement_named (StatementTree-F.Try at first second others) = in_turn (first ∷ second ∷ others)
  statement_named (StatementTree-F.Branch at op t body) = behind_params data_or_questions t.params (in_turn (in_order t.order ∷ body ∷ []))
  statement_named (StatementTree-F.Once at body) = body
  statement_named (StatementTree-F.While at test body) = in_turn (in_expr test ∷ body ∷ [])
  statement_named (StatementTree-F.If at test holds fails) = in_turn (in_expr test ∷ holds ∷ if_written fails ∷ [])
  statement_named (StatementTree-F.Label at op t) = in_post t
  statement_named (StatementTree-F.Precedes at first second) = λ sc. in_post first sc ++ in_post second sc
  statement_named (StatementTree-F.Constraint t) = in_expr t

  abbrev pub statements_named : StatementsTree-F Named Named Named → Named
  statements_named (StatementsTree-F.Empty at) = in_turn []
  statements_named (StatementsTree-F.Several at first rest is_closed) = in_turn (first ∷ rest)

  abbrev pub search_block_named : SearchBlockTree-F Named Named Named → Named
  search_block_named t = t.statements

  unfoldable pub in_statement : StatementTree → Named
  in_statement = fold-StatementTree Named Named Named statement_named statements_named search_block_named

  unfoldable pub in_statements : StatementsTree → Named
  in_statements = fold-StatementsTree Named Named Named statement_named statements_named search_block_named

  unfoldable pub in_search_block : SearchBlockTree → Named
  in_search_block = fold-SearchBlockTree Named Named Named statement_named statements_named search_block_named

  -- questions may stand there
  abbrev pub in_search : Option SearchTree → Named
  in_search None sc = []
  in_search (Some t) sc = in_search_block t.block (record sc { is_search = true })

-- ---- models

-- the declarations, and in the scope behind them the instruction and the search section
unfoldable pub model_fields : ModelTree → List FieldPlace
model_fields t =
    in_decls t.decls 0 t.decls empty_scope
    ++ (in_instr t.decls t.instr (scope_behind empty_scope (all_decls 0 empty_scope t.decls)) ++ in_search t.decls t.search (scope_behind empty_scope (all_decls 0 empty_scope t.decls)))
