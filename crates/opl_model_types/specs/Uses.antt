-- What the instruction and the search section use: their expressions, and the parameters that some of these stand behind.
use Rattle.std.specs.Prelude.{List, [], ◌∷◌, Option, Some, None}
use Rattle.opl_tree.specs.declared.expression.AddTree.{AddTree}
use Rattle.opl_tree.specs.declared.expression.SubscriptsTree.{SubscriptsTree}
use Rattle.opl_tree.specs.declared.instruction.BlockTree.{BlockTree}
use Rattle.opl_tree.specs.declared.instruction.ItemTree.{ItemTree}
use Rattle.opl_tree.specs.declared.instruction.ItemTree.TheOpen.{ItemTree-F, ItemsTree-F, BlockTree-F}
use Rattle.opl_tree.specs.declared.instruction.ItemTree.TheFolds.{fold-ItemTree, fold-ItemsTree, fold-BlockTree}
use Rattle.opl_tree.specs.declared.instruction.ItemsTree.{ItemsTree}
use Rattle.opl_tree.specs.declared.instruction.RequiresTree.{RequiresTree}
use Rattle.opl_tree.specs.declared.search.OrderTree.{OrderTree}
use Rattle.opl_tree.specs.declared.search.SearchBlockTree.{SearchBlockTree}
use Rattle.opl_tree.specs.declared.search.StatementTree.{StatementTree}
use Rattle.opl_tree.specs.declared.search.StatementTree.TheOpen.{StatementTree-F, StatementsTree-F, SearchBlockTree-F}
use Rattle.opl_tree.specs.declared.search.StatementTree.TheFolds.{fold-StatementTree, fold-StatementsTree, fold-SearchBlockTree}
use Rattle.opl_tree.specs.declared.search.StatementsTree.{StatementsTree}
use Rattle.opl_type_rules.specs.Forms.{Form, Forms, Params, form_expr, form_add, form_post, form_subscripts, form_params, forms_of}
use Rattle.opl_type_rules.specs.Forms.Form.{named}
use Rattle.opl_type_rules.specs.Expressions.{Need}
use Rattle.opl_type_rules.specs.Expressions.Need.{data_alone, data_or_questions}

-- nothing, expressions, one after the other, or what stands behind parameters whose condition meets the need
pub data Uses : Type 0 where
  no_uses : Uses
  expression : Form → Uses
  expressions : Forms → Uses
  both : Uses → Uses → Uses
  behind : Need → Params → Uses → Uses

-- one after the other
abbrev pub together : List Uses → Uses
together [] = no_uses
together (u ∷ us) = both u (together us)

-- what may be missing
abbrev pub where_written : Option Uses → Uses
where_written None = no_uses
where_written (Some u) = u

-- ---- items

-- a demand, if there is one
abbrev pub demand_uses : Option AddTree → Uses
demand_uses None = no_uses
demand_uses (Some t) = expression (form_add t)

-- the subscripts of a resource, if it has some
abbrev pub subscript_uses : Option SubscriptsTree → Uses
subscript_uses None = no_uses
subscript_uses (Some t) = expressions (forms_of (form_subscripts t))

-- the activity, the demand, the name of the resource and its subscripts
abbrev pub requires_uses : RequiresTree → Uses
requires_uses t = together (expression (form_post t.activity) ∷ demand_uses t.demand ∷ expression (named t.resource) ∷ subscript_uses t.subscripts ∷ [])

-- an item, by what the items in it use
abbrev pub item_uses_layer : ItemTree-F Uses Uses Uses → Uses
item_uses_layer (ItemTree-F.Block inner) = inner
item_uses_layer (ItemTree-F.ForAll at params body) = behind data_alone (form_params params) body
item_uses_layer (ItemTree-F.If at test holds fails) = together (expression (form_expr test) ∷ holds ∷ where_written fails ∷ [])
item_uses_layer (ItemTree-F.Precedes at first second) = both (expression (form_post first)) (expression (form_post second))
item_uses_layer (ItemTree-F.Requires t) = requires_uses t
item_uses_layer (ItemTree-F.Constraint t) = expression (form_expr t)

abbrev pub items_uses_layer : ItemsTree-F Uses Uses Uses → Uses
items_uses_layer (ItemsTree-F.Empty at) = no_uses
items_uses_layer (ItemsTree-F.Several at first rest is_closed) = together (first ∷ rest)

abbrev pub block_uses_layer : BlockTree-F Uses Uses Uses → Uses
block_uses_layer t = t.items

-- what an item uses, several items, and a block
unfoldable pub item_uses : ItemTree → Uses
item_uses = fold-ItemTree Uses Uses Uses item_uses_layer items_uses_layer block_uses_layer

unfoldable pub items_uses : ItemsTree → Uses
items_uses = fold-ItemsTree Uses Uses Uses item_uses_layer items_uses_layer block_uses_layer

unfoldable pub block_uses : BlockTree → Uses
block_uses = fold-BlockTree Uses Uses Uses item_uses_layer items_uses_layer block_uses_layer

-- ---- the search section

-- the key of an order
abbrev pub order_uses : Option OrderTree → Uses
order_uses None = no_uses
order_uses (Some t) = expression (form_add t.key)

-- a statement, by what the statements in it use
abbrev pub statement_uses_layer : StatementTree-F Uses Uses Uses → Uses
statement_uses_layer (StatementTree-F.Block inner) = inner
statement_uses_layer (StatementTree-F.Try at first second others) = together (first ∷ second ∷ others)
statement_uses_layer (StatementTree-F.Branch at op params body) = behind data_or_questions (form_params params.params) (both (order_uses params.order) body)
statement_uses_layer (StatementTree-F.Once at body) = body
statement_uses_layer (StatementTree-F.While at test body) = both (expression (form_expr test)) body
statement_uses_layer (StatementTree-F.If at test holds fails) = together (expression (form_expr test) ∷ holds ∷ where_written fails ∷ [])
statement_uses_layer (StatementTree-F.Label at op t) = expression (form_post t)
statement_uses_layer (StatementTree-F.Precedes at first second) = both (expression (form_post first)) (expression (form_post second))
statement_uses_layer (StatementTree-F.Constraint t) = expression (form_expr t)

abbrev pub statements_uses_layer : StatementsTree-F Uses Uses Uses → Uses
statements_uses_layer (StatementsTree-F.Empty at) = no_uses
statements_uses_layer (StatementsTree-F.Several at first rest is_closed) = together (first ∷ rest)

abbrev pub search_uses_layer : SearchBlockTree-F Uses Uses Uses → Uses
search_uses_layer t = t.statements

-- what a statement uses, several statements, and a block of the search section
unfoldable pub statement_uses : StatementTree → Uses
statement_uses = fold-StatementTree Uses Uses Uses statement_uses_layer statements_uses_layer search_uses_layer

unfoldable pub statements_uses : StatementsTree → Uses
statements_uses = fold-StatementsTree Uses Uses Uses statement_uses_layer statements_uses_layer search_uses_layer

unfoldable pub search_uses : SearchBlockTree → Uses
search_uses = fold-SearchBlockTree Uses Uses Uses statement_uses_layer statements_uses_layer search_uses_layer
