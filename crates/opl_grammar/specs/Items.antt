-- The rules of items, of their lists and of the instruction.
use Rattle.std.specs.Prelude.{ℕ, zero, suc, Option, Some, None}
use Rattle.opl_token.specs.declared.sign.Sign.TheVariants as signs
use Rattle.opl_tree.specs.declared.keyword.Keyword.TheVariants as words
use Rattle.opl_tree.specs.declared.expression.AddTree.{AddTree}
use Rattle.opl_tree.specs.declared.expression.ExprTree.{ExprTree}
use Rattle.opl_tree.specs.declared.expression.ParamsTree.{ParamsTree}
use Rattle.opl_tree.specs.declared.expression.PostTree.{PostTree}
use Rattle.opl_tree.specs.declared.instruction.BlockTree.{BlockTree, roll-BlockTree}
use Rattle.opl_tree.specs.declared.instruction.InstrTree.{InstrTree}
use Rattle.opl_tree.specs.declared.instruction.InstrTree.TheVariants as instrs
use Rattle.opl_tree.specs.declared.instruction.ItemTree.{ItemTree}
use Rattle.opl_tree.specs.declared.instruction.ItemTree.TheVariants as items_are
use Rattle.opl_tree.specs.declared.instruction.ItemsTree.{ItemsTree}
use Rattle.opl_tree.specs.declared.instruction.ItemsTree.TheVariants as lists
use Rattle.opl_tree.specs.declared.instruction.RequiresTree.{RequiresTree}
use Rattle.opl_grammar.specs.Input.{Parser, ◌>>=◌, ◌>>◌, ◌<$>◌, pure, refuse, refuse_level, here, one, sign, word, either, maybe, behind, is_sign, is_word}
use Rattle.opl_grammar.specs.Just.{post_of}
use Rattle.opl_grammar.specs.Rules.{Rules, rules, name, subscripts, post, expr, chosen}
use Rattle.opl_grammar.specs.Tables.{optimum_in, starts_item}

-- The phrases that stand behind a token that opens a level, which has the place that they take.
pub record ItemRules : Type 0 where
  -- behind `{`
  pub items : ℕ → Parser ItemsTree
  -- behind `forall`
  pub for_all : ℕ → Parser (ParamsTree × ItemTree)
  -- behind `if`
  pub branches : ℕ → Parser (ExprTree × ItemsTree × Option ItemsTree)

-- Each rule, with the rules of what stands in brackets and those of items that stand one level deeper.
module _ (below : Rules) (inner : ItemRules) where
  -- {ITEMS}
  unfoldable pub block : Parser BlockTree
  block = do
    at ← here
    sign signs.OpenBrace
    t ← inner.items at
    sign signs.CloseBrace
    pure (roll-BlockTree (record { at = at; items = t }))

  -- forall (PARAMS) ITEM
  unfoldable pub for_all : Parser ItemTree
  for_all = do
    at ← here
    word words.ForAll
    parts ← inner.for_all at
    pure (items_are.ForAll at parts.0 parts.1)

  -- if EXPR then ITEMS endif, or with else ITEMS before endif
  unfoldable pub if_item : Parser ItemTree
  if_item = do
    at ← here
    word words.If
    parts ← inner.branches at
    pure (items_are.If at parts.0 parts.1 parts.2)

  -- precedes POST, where what stands before is just a post
  abbrev pub precedes : ℕ → Option PostTree → Parser ItemTree
  precedes at (Some before) = word words.Precedes >> ((λ t. items_are.Precedes at before t) <$> post below)
  precedes at None = refuse

  -- (ADD)
  unfoldable pub demand : Parser AddTree
  demand = do
    at ← here
    sign signs.OpenParenthesis
    t ← below.add at
    sign signs.CloseParenthesis
    pure t

  -- requires NAME, with (ADD) before the name and subscripts behind it where they are written
  unfoldable pub requires_tree : ℕ → PostTree → Parser RequiresTree
  requires_tree at activity = do
    word words.Requires
    amount ← maybe (is_sign signs.OpenParenthesis) demand
    t ← name
    parts ← maybe (is_sign signs.OpenBracket) (subscripts below)
    pure (record { at = at; activity = activity; demand = amount; resource = t; subscripts = parts })

  -- that, where what stands before is just a post
  abbrev pub required : ℕ → Option PostTree → Parser ItemTree
  required at (Some activity) = items_are.Requires <$> requires_tree at activity
  required at None = refuse

  -- what an item that begins with this expression at this place is
  unfoldable pub stated_of : ℕ → ExprTree → Parser ItemTree
  stated_of at t =
      either (is_word words.Precedes) (precedes at (post_of t))
      (either (is_word words.Requires) (required at (post_of t))
      (pure (items_are.Constraint t)))

  -- EXPR, POST precedes POST or POST requires ..
  unfoldable pub stated : Parser ItemTree
  stated = do
    at ← here
    t ← expr below
    stated_of at t

  -- an item
  unfoldable pub item : Parser ItemTree
  item =
      either (is_sign signs.OpenBrace) (items_are.Block <$> block)
      (either (is_word words.ForAll) for_all
      (either (is_word words.If) if_item
      stated))

  -- ITEM (; ITEM)* [;]
  unfoldable pub several_items : Parser ItemsTree
  several_items = do
    at ← here
    first ← item
    more ← behind signs.Semicolon starts_item item
    pure (lists.Several at first more.0 more.1)

  -- items, or none
  unfoldable pub items : Parser ItemsTree
  items = either starts_item several_items (lists.Empty <$> here)

  -- ---- one level more

  -- (PARAMS) ITEM
  unfoldable pub quantified : Parser (ParamsTree × ItemTree)
  quantified = do
    t ← chosen below
    body ← item
    pure (t, body)

  -- else ITEMS
  unfoldable pub otherwise : Parser ItemsTree
  otherwise = word words.Else >> items

  -- EXPR then ITEMS endif, or with else ITEMS before endif
  unfoldable pub branches : Parser (ExprTree × ItemsTree × Option ItemsTree)
  branches = do
    t ← expr below
    word words.Then
    body ← items
    other ← maybe (is_word words.Else) otherwise
    word words.EndIf
    pure (t, body, other)

  -- what is read behind an opening token, over what is one level deeper
  unfoldable pub item_level : ItemRules
  item_level = record {
    items = λ at. items;
    for_all = λ at. quantified;
    branches = λ at. branches;
  }

  -- ---- the instruction

  -- solve BLOCK;
  unfoldable pub solve : Parser InstrTree
  solve = do
    at ← here
    word words.Solve
    t ← block
    sign signs.Semicolon
    pure (instrs.Solve at t)

  -- minimize EXPR subject to BLOCK; or maximize EXPR subject to BLOCK;
  unfoldable pub optimize : Parser InstrTree
  optimize = do
    at ← here
    best ← one optimum_in
    objective ← expr below
    word words.Subject
    word words.To
    t ← block
    sign signs.Semicolon
    pure (instrs.Optimize at best objective t)

  -- the instruction
  unfoldable pub instr : Parser InstrTree
  instr = either (is_word words.Solve) solve optimize

-- no level is left
abbrev pub no_item_level : ItemRules
no_item_level = record {
  items = refuse_level;
  for_all = refuse_level;
  branches = refuse_level;
}

-- what is read behind an opening token, where so many levels may be opened
unfoldable pub item_rules : ℕ → ItemRules
item_rules zero = no_item_level
item_rules (suc n) = item_level (rules n) (item_rules n)
