-- Which items and statements have types, in the scope that they stand in.
use Rattle.std.specs.Prelude.{◌≡◌, true, List, [], ◌∷◌, Option, Some, None}
use Rattle.opl_tree.specs.declared.expression.AddTree.{AddTree}
use Rattle.opl_tree.specs.declared.expression.SubscriptsTree.{SubscriptsTree}
use Rattle.opl_tree.specs.declared.instruction.BlockTree.{BlockTree}
use Rattle.opl_tree.specs.declared.instruction.InstrTree.{InstrTree}
use Rattle.opl_tree.specs.declared.instruction.InstrTree.TheVariants as instrs
use Rattle.opl_tree.specs.declared.instruction.ItemTree.{ItemTree}
use Rattle.opl_tree.specs.declared.instruction.ItemTree.TheOpen.{ItemTree-F, ItemsTree-F, BlockTree-F}
use Rattle.opl_tree.specs.declared.instruction.ItemTree.TheFolds.{fold-ItemTree, fold-ItemsTree, fold-BlockTree}
use Rattle.opl_tree.specs.declared.instruction.ItemsTree.{ItemsTree}
use Rattle.opl_tree.specs.declared.instruction.RequiresTree.{RequiresTree}
use Rattle.opl_tree.specs.declared.search.LabelOp.{LabelOp}
use Rattle.opl_tree.specs.declared.search.LabelOp.TheVariants as labels
use Rattle.opl_tree.specs.declared.search.OrderTree.{OrderTree}
use Rattle.opl_tree.specs.declared.search.SearchBlockTree.{SearchBlockTree}
use Rattle.opl_tree.specs.declared.search.SearchTree.{SearchTree}
use Rattle.opl_tree.specs.declared.search.StatementTree.{StatementTree}
use Rattle.opl_tree.specs.declared.search.StatementTree.TheOpen.{StatementTree-F, StatementsTree-F, SearchBlockTree-F}
use Rattle.opl_tree.specs.declared.search.StatementTree.TheFolds.{fold-StatementTree, fold-StatementsTree, fold-SearchBlockTree}
use Rattle.opl_tree.specs.declared.search.StatementsTree.{StatementsTree}
use Rattle.opl_type_rules.specs.Types.{Sort, is_number, is_truth, is_activity, is_unary, is_discrete}
use Rattle.opl_type_rules.specs.Types.Sort.{array}
use Rattle.opl_type_rules.specs.Scope.{Scope, lookup}
use Rattle.opl_type_rules.specs.Scope.Thing.{resource}
use Rattle.opl_type_rules.specs.Forms.{Form, Params, form_expr, form_add, form_post, form_subscripts, form_params, forms_of}
use Rattle.opl_type_rules.specs.Expressions.{Need}
use Rattle.opl_type_rules.specs.Expressions.Need.{nothing, data_alone, data_or_questions}
use Rattle.opl_typed.specs.Relation.{Typed, IsData, Is, Each, SubscriptsFit, HasType, HaveTypes, Opens}
use Rattle.opl_typed_model.specs.Places.{Stands, MayBeDataNumber}

-- ---- what items and statements are made of

pub data Part : Type 0 where
  empty : Part
  -- a condition, which meets the need, and the key of an order
  condition : Need → Form → Part
  key : Form → Part
  -- `a precedes b`, `a requires (k) r`, and `generate(a)` or `rank(a)`
  precedence : Form → Form → Part
  requirement : RequiresTree → Part
  labelled : LabelOp → Form → Part
  -- two, and one behind parameters whose condition meets the need
  both : Part → Part → Part
  behind : Need → Params → Part → Part

-- one beside the other
abbrev pub together : List Part → Part
together [] = empty
together (p ∷ ps) = both p (together ps)

-- what may be missing
abbrev pub where_written : Option Part → Part
where_written None = empty
where_written (Some p) = p

-- ---- from trees to parts

abbrev pub item_part_layer : ItemTree-F Part Part Part → Part
item_part_layer (ItemTree-F.Block inner) = inner
item_part_layer (ItemTree-F.ForAll at params body) = behind data_alone (form_params params) body
item_part_layer (ItemTree-F.If at test holds fails) = together (condition data_alone (form_expr test) ∷ holds ∷ where_written fails ∷ [])
item_part_layer (ItemTree-F.Precedes at first second) = precedence (form_post first) (form_post second)
item_part_layer (ItemTree-F.Requires t) = requirement t
item_part_layer (ItemTree-F.Constraint t) = condition nothing (form_expr t)

abbrev pub items_part_layer : ItemsTree-F Part Part Part → Part
items_part_layer (ItemsTree-F.Empty at) = empty
items_part_layer (ItemsTree-F.Several at first rest is_closed) = together (first ∷ rest)

abbrev pub block_part_layer : BlockTree-F Part Part Part → Part
block_part_layer t = t.items

-- an item, several items, and a block of them
unfoldable pub item_part : ItemTree → Part
item_part = fold-ItemTree Part Part Part item_part_layer items_part_layer block_part_layer

unfoldable pub items_part : ItemsTree → Part
items_part = fold-ItemsTree Part Part Part item_part_layer items_part_layer block_part_layer

unfoldable pub block_part : BlockTree → Part
block_part = fold-BlockTree Part Part Part item_part_layer items_part_layer block_part_layer

abbrev pub order_part : Option OrderTree → Part
order_part None = empty
order_part (Some t) = key (form_add t.key)

-- in the search section, conditions may ask
abbrev pub statement_part_layer : StatementTree-F Part Part Part → Part
statement_part_layer (StatementTree-F.Block inner) = inner
statement_part_layer (StatementTree-F.Try at first second others) = together (first ∷ second ∷ others)
statement_part_layer (StatementTree-F.Branch at op params body) = behind data_or_questions (form_params params.params) (together (order_part params.order ∷ body ∷ []))
statement_part_layer (StatementTree-F.Once at body) = body
statement_part_layer (StatementTree-F.While at test body) = together (condition data_or_questions (form_expr test) ∷ body ∷ [])
statement_part_layer (StatementTree-F.If at test holds fails) = together (condition data_or_questions (form_expr test) ∷ holds ∷ where_written fails ∷ [])
statement_part_layer (StatementTree-F.Label at op t) = labelled op (form_post t)
statement_part_layer (StatementTree-F.Precedes at first second) = precedence (form_post first) (form_post second)
statement_part_layer (StatementTree-F.Constraint t) = condition nothing (form_expr t)

abbrev pub statements_part_layer : StatementsTree-F Part Part Part → Part
statements_part_layer (StatementsTree-F.Empty at) = empty
statements_part_layer (StatementsTree-F.Several at first rest is_closed) = together (first ∷ rest)

abbrev pub search_part_layer : SearchBlockTree-F Part Part Part → Part
search_part_layer t = t.statements

-- a statement, several statements, and a block of them
unfoldable pub statement_part : StatementTree → Part
statement_part = fold-StatementTree Part Part Part statement_part_layer statements_part_layer search_part_layer

unfoldable pub statements_part : StatementsTree → Part
statements_part = fold-StatementsTree Part Part Part statement_part_layer statements_part_layer search_part_layer

unfoldable pub search_part : SearchBlockTree → Part
search_part = fold-SearchBlockTree Part Part Part statement_part_layer statements_part_layer search_part_layer

-- ---- which have types

-- a resource without a demand is unary, with one discrete
abbrev pub IsDemanded : Option AddTree → Sort → Type 0
IsDemanded None s = is_unary s ≡ true
IsDemanded (Some demand) s = is_discrete s ≡ true

-- an element of an array of resources, with subscripts that are data
abbrev pub IsElementOf : Scope → Option AddTree → SubscriptsTree → Sort → Type 0
IsElementOf sc demand subscripts (array indices s) =
    (parts : List Typed) × HaveTypes sc (forms_of (form_subscripts subscripts)) parts × SubscriptsFit sc indices parts × Each IsData parts × IsDemanded demand s
IsElementOf sc demand subscripts s = ⊥

-- a resource, or an element of an array of such
abbrev pub IsResource : Scope → Option AddTree → Option SubscriptsTree → Sort → Type 0
IsResource sc demand None s = IsDemanded demand s
IsResource sc demand (Some subscripts) s = IsElementOf sc demand subscripts s

-- `generate` takes the bare name of a variable, an activity or an array of such, `rank` a unary resource
abbrev pub IsLabelled : LabelOp → Typed → Type 0
IsLabelled labels.Generate a = a.is_whole ≡ true
IsLabelled labels.Rank a = Is is_unary a

abbrev pub IsTyped : Scope → Part → Type 0
IsTyped sc empty = Unit {0}
-- a condition is a truth value, and so is what is posted
IsTyped sc (condition need f) = Stands sc need is_truth f
-- a key is a number, and may ask
IsTyped sc (key f) = Stands sc data_or_questions is_number f
-- of two activities
IsTyped sc (precedence f g) = Stands sc nothing is_activity f × Stands sc nothing is_activity g
-- an activity; a visible resource, with or without a demand
IsTyped sc (requirement t) =
    (s : Sort) × Stands sc nothing is_activity (form_post t.activity) × MayBeDataNumber sc t.demand × (lookup sc t.resource.text ≡ Some (resource s)) × IsResource sc t.demand t.subscripts s
IsTyped sc (labelled op f) = (a : Typed) × HasType sc f a × IsLabelled op a
IsTyped sc (both p q) = IsTyped sc p × IsTyped sc q
-- what stands behind parameters sees them
IsTyped sc (behind need params p) = (inner : Scope) × Opens need sc params inner × IsTyped inner p

-- ---- the instruction and the search section

-- the objective is a number
abbrev pub IsInstr : Scope → InstrTree → Type 0
IsInstr sc (instrs.Solve at t) = IsTyped sc (block_part t)
IsInstr sc (instrs.Optimize at optimum objective t) = Stands sc nothing is_number (form_expr objective) × IsTyped sc (block_part t)

-- questions are asked in the search section alone
abbrev pub IsSearch : Scope → Option SearchTree → Type 0
IsSearch sc None = Unit {0}
IsSearch sc (Some t) = IsTyped (record sc { is_search = true }) (search_part t.block)
