-- The types of the instruction and of the search section.
use Rattle.std.specs.Prelude.{ℕ, Bool, true, false, ◌&&◌, List, [], ◌∷◌, ◌++◌, Option, Some, None, Ok, Err}
use Rattle.std.specs.List.{list_all}
use Rattle.opl_tree.specs.declared.expression.AddTree.{AddTree}
use Rattle.opl_tree.specs.declared.expression.ExprTree.{ExprTree}
use Rattle.opl_tree.specs.declared.expression.NameTree.{NameTree}
use Rattle.opl_tree.specs.declared.expression.ParamsTree.{ParamsTree}
use Rattle.opl_tree.specs.declared.expression.PostTree.{PostTree}
use Rattle.opl_tree.specs.declared.expression.SubscriptsTree.{SubscriptsTree}
use Rattle.opl_tree.specs.declared.instruction.BlockTree.{BlockTree}
use Rattle.opl_tree.specs.declared.instruction.InstrTree.{InstrTree}
use Rattle.opl_tree.specs.declared.instruction.InstrTree.TheVariants as instrs
use Rattle.opl_tree.specs.declared.instruction.ItemTree.{ItemTree}
use Rattle.opl_tree.specs.declared.instruction.ItemTree.TheOpen.{ItemTree-F, ItemsTree-F, BlockTree-F}
use Rattle.opl_tree.specs.declared.instruction.ItemTree.TheFolds.{fold-ItemTree, fold-ItemsTree, fold-BlockTree}
use Rattle.opl_tree.specs.declared.instruction.ItemsTree.{ItemsTree}
use Rattle.opl_tree.specs.declared.instruction.RequiresTree.{RequiresTree}
use Rattle.opl_tree.specs.declared.search.LabelOp.{LabelOp}
use Rattle.opl_tree.specs.declared.search.LabelOp.TheVariants as labels
use Rattle.opl_tree.specs.declared.search.OrderTree.{OrderTree}
use Rattle.opl_tree.specs.declared.search.SearchBlockTree.{SearchBlockTree}
use Rattle.opl_tree.specs.declared.search.SearchTree.{SearchTree}
use Rattle.opl_tree.specs.declared.search.StatementTree.{StatementTree}
use Rattle.opl_tree.specs.declared.search.StatementTree.TheOpen.{StatementTree-F, StatementsTree-F, SearchBlockTree-F}
use Rattle.opl_tree.specs.declared.search.StatementTree.TheFolds.{fold-StatementTree, fold-StatementsTree, fold-SearchBlockTree}
use Rattle.opl_tree.specs.declared.search.StatementsTree.{StatementsTree}
use Rattle.opl_type_rules.specs.declared.fault.TypeFault.TheVariants.{Unknown, Mismatch}
use Rattle.opl_type_rules.specs.Types.{Sort, is_number, is_truth, is_activity, is_unary, is_discrete}
use Rattle.opl_type_rules.specs.Types.Sort.{array}
use Rattle.opl_type_rules.specs.Scope.{Checked, ◌>>=◌, ◌>>◌, unless, Scope, Thing, lookup}
use Rattle.opl_type_rules.specs.Scope.Thing.{resource}
use Rattle.opl_type_rules.specs.Forms.{form_expr, form_add, form_post, form_subscripts, form_params, forms_of}
use Rattle.opl_type_rules.specs.Expressions.{Node, Need, used, part, kinds, kinds_in, is_data, subscripts_fit, typing, typed_parts, open_params}
use Rattle.opl_type_rules.specs.Expressions.Need.{nothing, data_alone, data_or_questions}
use Rattle.opl_expression_types.specs.Numbers.{maybe_number}

-- the types of the expressions in what is looked at, or its first fault
abbrev pub Looked : Type 0
Looked = Scope → Checked (List Sort)

-- one after the other
abbrev pub each : List Looked → Looked
each [] sc = Ok []
each (l ∷ ls) sc = do
  first ← l sc
  rest ← each ls sc
  Ok (first ++ rest)

abbrev pub if_written : Option Looked → Looked
if_written None sc = Ok []
if_written (Some l) sc = l sc

-- with parameters in front, whose condition meets the need
abbrev pub within : Need → ParamsTree → Looked → Looked
within need params inner sc = do
  opened ← open_params need sc (form_params params)
  rest ← inner opened.scope
  Ok (opened.kinds ++ rest)

-- an expression that is a condition
abbrev pub condition : Need → ExprTree → Looked
condition need t sc = do
  n ← typing sc (form_expr t) >>= used need is_truth
  Ok (kinds n)

-- `a precedes b`, of two activities
abbrev pub precedes : ℕ → PostTree → PostTree → Looked
precedes at first second sc = do
  m ← typing sc (form_post first) >>= part
  n ← typing sc (form_post second) >>= part
  unless (is_activity m.sort && is_activity n.sort) (Mismatch at)
  Ok (kinds m ++ kinds n)

-- ---- resources

-- what stands for a resource that is visible
abbrev pub known : NameTree → Option Thing → Checked Thing
known name None = Err (Unknown name.at)
known name (Some thing) = Ok thing

abbrev pub subscript_nodes : Scope → Option SubscriptsTree → Checked (List Node)
subscript_nodes sc None = Ok []
subscript_nodes sc (Some t) = typed_parts sc (forms_of (form_subscripts t))

-- unary without a demand, discrete with one
abbrev pub is_demanded : Option AddTree → Sort → Bool
is_demanded None s = is_unary s
is_demanded (Some demand) s = is_discrete s

-- an element has subscripts, one for each dimension, which are data
abbrev pub is_resource_of : Scope → Option AddTree → Option SubscriptsTree → List Node → Sort → Bool
is_resource_of sc demand (Some t) ns (array indices s) = subscripts_fit sc indices ns && (list_all is_data ns && is_demanded demand s)
is_resource_of sc demand (Some t) ns s = false
is_resource_of sc demand None ns s = is_demanded demand s

abbrev pub is_resource : Scope → RequiresTree → List Node → Thing → Bool
is_resource sc t ns (resource s) = is_resource_of sc t.demand t.subscripts ns s
is_resource sc t ns thing = false

-- an activity, and a unary resource without a demand or a discrete one with it
abbrev pub requires : RequiresTree → Looked
requires t sc = do
  n ← typing sc (form_post t.activity) >>= part
  demand ← maybe_number sc t.demand
  thing ← known t.resource (lookup sc t.resource.text)
  ns ← subscript_nodes sc t.subscripts
  unless (is_activity n.sort && is_resource sc t ns thing) (Mismatch t.at)
  Ok (kinds n ++ (demand ++ kinds_in ns))

-- ---- items

abbrev pub item_layer : ItemTree-F Looked Looked Looked → Looked
item_layer (ItemTree-F.Block inner) = inner
item_layer (ItemTree-F.ForAll at params body) = within data_alone params body
item_layer (ItemTree-F.If at test holds fails) = each (condition data_alone test ∷ holds ∷ if_written fails ∷ [])
item_layer (ItemTree-F.Precedes at first second) = precedes at first second
item_layer (ItemTree-F.Requires t) = requires t
item_layer (ItemTree-F.Constraint t) = condition nothing t

abbrev pub items_layer : ItemsTree-F Looked Looked Looked → Looked
items_layer (ItemsTree-F.Empty at) = each []
items_layer (ItemsTree-F.Several at first rest is_closed) = each (first ∷ rest)

abbrev pub block_layer : BlockTree-F Looked Looked Looked → Looked
block_layer t = t.items

unfoldable pub item : ItemTree → Looked
item = fold-ItemTree Looked Looked Looked item_layer items_layer block_layer

unfoldable pub items : ItemsTree → Looked
items = fold-ItemsTree Looked Looked Looked item_layer items_layer block_layer

unfoldable pub block : BlockTree → Looked
block = fold-BlockTree Looked Looked Looked item_layer items_layer block_layer

-- ---- the search section

-- a variable, an activity or an array of such is generated, a unary resource is ranked
abbrev pub is_labelled : LabelOp → Node → Bool
is_labelled labels.Generate n = n.is_whole
is_labelled labels.Rank n = is_unary n.sort

abbrev pub label : ℕ → LabelOp → PostTree → Looked
label at op t sc = do
  n ← typing sc (form_post t) >>= part
  unless (is_labelled op n) (Mismatch at)
  Ok (kinds n)

-- the key of an order is a number, and may ask
abbrev pub order : Option OrderTree → Looked
order None sc = Ok []
order (Some t) sc = do
  n ← typing sc (form_add t.key) >>= used data_or_questions is_number
  Ok (kinds n)

abbrev pub statement_layer : StatementTree-F Looked Looked Looked → Looked
statement_layer (StatementTree-F.Block inner) = inner
statement_layer (StatementTree-F.Try at first second others) = each (first ∷ second ∷ others)
statement_layer (StatementTree-F.Branch at op params body) = within data_or_questions params.params (each (order params.order ∷ body ∷ []))
statement_layer (StatementTree-F.Once at body) = body
statement_layer (StatementTree-F.While at test body) = each (condition data_or_questions test ∷ body ∷ [])
statement_layer (StatementTree-F.If at test holds fails) = each (condition data_or_questions test ∷ holds ∷ if_written fails ∷ [])
statement_layer (StatementTree-F.Label at op t) = label at op t
statement_layer (StatementTree-F.Precedes at first second) = precedes at first second
statement_layer (StatementTree-F.Constraint t) = condition nothing t

abbrev pub statements_layer : StatementsTree-F Looked Looked Looked → Looked
statements_layer (StatementsTree-F.Empty at) = each []
statements_layer (StatementsTree-F.Several at first rest is_closed) = each (first ∷ rest)

abbrev pub search_block_layer : SearchBlockTree-F Looked Looked Looked → Looked
search_block_layer t = t.statements

unfoldable pub statement : StatementTree → Looked
statement = fold-StatementTree Looked Looked Looked statement_layer statements_layer search_block_layer

unfoldable pub statements : StatementsTree → Looked
statements = fold-StatementsTree Looked Looked Looked statement_layer statements_layer search_block_layer

unfoldable pub search_block : SearchBlockTree → Looked
search_block = fold-SearchBlockTree Looked Looked Looked statement_layer statements_layer search_block_layer

-- questions are asked in the search section alone
abbrev pub search : Option SearchTree → Looked
search None sc = Ok []
search (Some t) sc = search_block t.block (record sc { is_search = true })

-- ---- the instruction

-- the objective is a number
abbrev pub instr : InstrTree → Looked
instr (instrs.Solve at t) sc = block t sc
instr (instrs.Optimize at optimum objective t) sc = do
  n ← typing sc (form_expr objective) >>= used nothing is_number
  rest ← block t sc
  Ok (kinds n ++ rest)
