-- The walk over a model's trees: its expressions in the order of the text, in which typing lists their types.
use Rattle.std.specs.Prelude.{List, ◌∷◌, map, Option, Some, None}
use Rattle.std.specs.Option.{option_map}
use Rattle.opl_tree.specs.declared.declaration.BoundsTree.{BoundsTree}
use Rattle.opl_tree.specs.declared.declaration.DeclTree.{DeclTree}
use Rattle.opl_tree.specs.declared.declaration.DeclTree.TheVariants as decls
use Rattle.opl_tree.specs.declared.declaration.DimTree.{DimTree}
use Rattle.opl_tree.specs.declared.declaration.DimsTree.{DimsTree}
use Rattle.opl_tree.specs.declared.declaration.InitialTree.{InitialTree}
use Rattle.opl_tree.specs.declared.declaration.InitialTree.TheVariants as initials
use Rattle.opl_tree.specs.declared.expression.AddTree.{AddTree}
use Rattle.opl_tree.specs.declared.expression.ExprTree.{ExprTree}
use Rattle.opl_tree.specs.declared.expression.ParamsTree.{ParamsTree}
use Rattle.opl_tree.specs.declared.expression.PostTree.{PostTree}
use Rattle.opl_tree.specs.declared.expression.SubscriptsTree.{SubscriptsTree}
use Rattle.opl_tree.specs.declared.instruction.BlockTree.{BlockTree}
use Rattle.opl_tree.specs.declared.instruction.InstrTree.{InstrTree}
use Rattle.opl_tree.specs.declared.instruction.InstrTree.TheVariants as instrs
use Rattle.opl_tree.specs.declared.instruction.ItemTree.{ItemTree}
use Rattle.opl_tree.specs.declared.instruction.ItemTree.TheOpen.{ItemTree-F, ItemsTree-F, BlockTree-F}
use Rattle.opl_tree.specs.declared.instruction.ItemTree.TheFolds.{fold-ItemTree, fold-ItemsTree, fold-BlockTree}
use Rattle.opl_tree.specs.declared.instruction.ItemsTree.{ItemsTree}
use Rattle.opl_tree.specs.declared.instruction.RequiresTree.{RequiresTree}
use Rattle.opl_tree.specs.declared.model.ModelTree.{ModelTree}
use Rattle.opl_tree.specs.declared.search.OrderTree.{OrderTree}
use Rattle.opl_tree.specs.declared.search.SearchBlockTree.{SearchBlockTree}
use Rattle.opl_tree.specs.declared.search.SearchTree.{SearchTree}
use Rattle.opl_tree.specs.declared.search.StatementTree.{StatementTree}
use Rattle.opl_tree.specs.declared.search.StatementTree.TheOpen.{StatementTree-F, StatementsTree-F, SearchBlockTree-F}
use Rattle.opl_tree.specs.declared.search.StatementTree.TheFolds.{fold-StatementTree, fold-StatementsTree, fold-SearchBlockTree}
use Rattle.opl_tree.specs.declared.search.StatementsTree.{StatementsTree}
use Rattle.opl_term.specs.declared.term.ParamsTerm.{ParamsTerm}
use Rattle.opl_term.specs.Terms.{expr_term, add_term, post_term, set_term, params_term, subscripts_terms}
use Rattle.opl_fields.specs.Walk.{Pass, each, if_written, walk, walk_set, walk_group}

-- ---- expressions

abbrev pub walk_expr : List DeclTree → ExprTree → Pass
walk_expr ds t = walk ds (expr_term t)

abbrev pub walk_add : List DeclTree → AddTree → Pass
walk_add ds t = walk ds (add_term t)

abbrev pub walk_post : List DeclTree → PostTree → Pass
walk_post ds t = walk ds (post_term t)

-- the sets of parameters, and then their condition
abbrev pub walk_params_term : List DeclTree → ParamsTerm → Pass
walk_params_term ds p s = if_written (option_map (walk ds) p.condition) (each (map (walk_group ds) p.groups) s)

abbrev pub walk_params : List DeclTree → ParamsTree → Pass
walk_params ds t = walk_params_term ds (params_term t)

abbrev pub walk_subscripts : List DeclTree → Option SubscriptsTree → Pass
walk_subscripts ds None s = s
walk_subscripts ds (Some t) s = each (map (walk ds) (subscripts_terms t)) s

abbrev pub walk_if_written : List DeclTree → Option AddTree → Pass
walk_if_written ds None s = s
walk_if_written ds (Some t) s = walk_add ds t s

-- ---- declarations

-- the name of a dimension is no expression
abbrev pub walk_dim : List DeclTree → DimTree → Pass
walk_dim ds t = walk_set ds (set_term t.set)

abbrev pub walk_dims : List DeclTree → Option DimsTree → Pass
walk_dims ds None s = s
walk_dims ds (Some t) s = each (map (walk_dim ds) (t.first ∷ t.rest)) s

-- a value in a data file has no expressions; `[..]` and `#[..]#` are expressions with their cells inside
abbrev pub walk_initial : List DeclTree → InitialTree → Pass
walk_initial ds (initials.External at) s = s
walk_initial ds (initials.Written t) s = walk_add ds t s

abbrev pub walk_bounds : List DeclTree → Option BoundsTree → Pass
walk_bounds ds None s = s
walk_bounds ds (Some t) s = walk_add ds t.high (walk_add ds t.low s)

-- types and names of enumerations and fields are no expressions
abbrev pub walk_decl : List DeclTree → DeclTree → Pass
walk_decl ds (decls.Data t) s = walk_initial ds t.initial (walk_dims ds t.dims s)
walk_decl ds (decls.Range t) s = walk_add ds t.high (walk_add ds t.low s)
walk_decl ds (decls.Enumeration t) s = s
walk_decl ds (decls.Structure t) s = s
walk_decl ds (decls.Variable t) s = walk_bounds ds t.bounds (walk_dims ds t.dims s)
walk_decl ds (decls.Activity t) s = walk_if_written ds t.longest (walk_add ds t.shortest (walk_dims ds t.dims s))
walk_decl ds (decls.Unary t) s = walk_dims ds t.dims s
walk_decl ds (decls.Discrete t) s = walk_add ds t.capacity (walk_dims ds t.dims s)
walk_decl ds (decls.Schedule t) s = walk_add ds t.value s

-- ---- items

-- the resource's name is no expression
abbrev pub walk_requires : List DeclTree → RequiresTree → Pass
walk_requires ds t s = walk_subscripts ds t.subscripts (walk_if_written ds t.demand (walk_post ds t.activity s))

abbrev pub item_layer : List DeclTree → ItemTree-F Pass Pass Pass → Pass
item_layer ds (ItemTree-F.Block inner) s = inner s
item_layer ds (ItemTree-F.ForAll at params body) s = body (walk_params ds params s)
item_layer ds (ItemTree-F.If at test holds fails) s = if_written fails (holds (walk_expr ds test s))
item_layer ds (ItemTree-F.Precedes at first second) s = walk_post ds second (walk_post ds first s)
item_layer ds (ItemTree-F.Requires t) s = walk_requires ds t s
item_layer ds (ItemTree-F.Constraint t) s = walk_expr ds t s

abbrev pub items_layer : ItemsTree-F Pass Pass Pass → Pass
items_layer (ItemsTree-F.Empty at) s = s
items_layer (ItemsTree-F.Several at first rest is_closed) s = each (first ∷ rest) s

abbrev pub block_layer : BlockTree-F Pass Pass Pass → Pass
block_layer t = t.items

unfoldable pub walk_item : List DeclTree → ItemTree → Pass
walk_item ds = fold-ItemTree Pass Pass Pass (item_layer ds) items_layer block_layer

unfoldable pub walk_items : List DeclTree → ItemsTree → Pass
walk_items ds = fold-ItemsTree Pass Pass Pass (item_layer ds) items_layer block_layer

unfoldable pub walk_block : List DeclTree → BlockTree → Pass
walk_block ds = fold-BlockTree Pass Pass Pass (item_layer ds) items_layer block_layer

abbrev pub walk_instr : List DeclTree → InstrTree → Pass
walk_instr ds (instrs.Solve at t) s = walk_block ds t s
walk_instr ds (instrs.Optimize at optimum objective t) s = walk_block ds t (walk_expr ds objective s)

-- ---- the search section

abbrev pub walk_order : List DeclTree → Option OrderTree → Pass
walk_order ds None s = s
walk_order ds (Some t) s = walk_add ds t.key s

abbrev pub statement_layer : List DeclTree → StatementTree-F Pass Pass Pass → Pass
statement_layer ds (StatementTree-F.Block inner) s = inner s
statement_layer ds (StatementTree-F.Try at first second others) s = each (first ∷ second ∷ others) s
statement_layer ds (StatementTree-F.Branch at op t body) s = body (walk_order ds t.order (walk_params ds t.params s))
statement_layer ds (StatementTree-F.Once at body) s = body s
statement_layer ds (StatementTree-F.While at test body) s = body (walk_expr ds test s)
statement_layer ds (StatementTree-F.If at test holds fails) s = if_written fails (holds (walk_expr ds test s))
statement_layer ds (StatementTree-F.Label at op t) s = walk_post ds t s
statement_layer ds (StatementTree-F.Precedes at first second) s = walk_post ds second (walk_post ds first s)
statement_layer ds (StatementTree-F.Constraint t) s = walk_expr ds t s

abbrev pub statements_layer : StatementsTree-F Pass Pass Pass → Pass
statements_layer (StatementsTree-F.Empty at) s = s
statements_layer (StatementsTree-F.Several at first rest is_closed) s = each (first ∷ rest) s

abbrev pub search_block_layer : SearchBlockTree-F Pass Pass Pass → Pass
search_block_layer t = t.statements

unfoldable pub walk_statement : List DeclTree → StatementTree → Pass
walk_statement ds = fold-StatementTree Pass Pass Pass (statement_layer ds) statements_layer search_block_layer

unfoldable pub walk_statements : List DeclTree → StatementsTree → Pass
walk_statements ds = fold-StatementsTree Pass Pass Pass (statement_layer ds) statements_layer search_block_layer

unfoldable pub walk_search_block : List DeclTree → SearchBlockTree → Pass
walk_search_block ds = fold-SearchBlockTree Pass Pass Pass (statement_layer ds) statements_layer search_block_layer

abbrev pub walk_search : List DeclTree → Option SearchTree → Pass
walk_search ds None s = s
walk_search ds (Some t) s = walk_search_block ds t.block s

-- ---- models

-- declarations, the instruction, and then the search section
unfoldable pub walk_model : ModelTree → Pass
walk_model t s = walk_search t.decls t.search (walk_instr t.decls t.instr (each (map (walk_decl t.decls) t.decls) s))
