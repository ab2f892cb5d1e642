-- The rules of the search section and of its statements.
use Rattle.std.specs.Prelude.{ℕ, zero, suc, List, Option, Some, None}
use Rattle.opl_token.specs.declared.sign.Sign.TheVariants as signs
use Rattle.opl_tree.specs.declared.keyword.Keyword.TheVariants as words
use Rattle.opl_tree.specs.declared.expression.ExprTree.{ExprTree}
use Rattle.opl_tree.specs.declared.expression.PostTree.{PostTree}
use Rattle.opl_tree.specs.declared.search.OrderedParamsTree.{OrderedParamsTree}
use Rattle.opl_tree.specs.declared.search.SearchBlockTree.{SearchBlockTree, roll-SearchBlockTree}
use Rattle.opl_tree.specs.declared.search.SearchTree.{SearchTree}
use Rattle.opl_tree.specs.declared.search.StatementTree.{StatementTree}
use Rattle.opl_tree.specs.declared.search.StatementTree.TheVariants as statements_are
use Rattle.opl_tree.specs.declared.search.StatementsTree.{StatementsTree}
use Rattle.opl_tree.specs.declared.search.StatementsTree.TheVariants as lists
use Rattle.opl_grammar.specs.Input.{Parser, ◌>>=◌, ◌>>◌, ◌<$>◌, pure, refuse, refuse_level, here, one, sign, word, either, maybe, behind, after_each, is_sign, is_word}
use Rattle.opl_grammar.specs.Just.{post_of}
use Rattle.opl_grammar.specs.Rules.{Rules, rules, post, asked, expr}
use Rattle.opl_grammar.specs.Tables.{branch_in, label_in, is_branch, is_label, starts_statement}

-- The phrases that stand behind a token that opens a level, which has the place that they take.
pub record StatementRules : Type 0 where
  -- behind `{`
  pub statements : ℕ → Parser StatementsTree
  -- behind `try`
  pub alternatives : ℕ → Parser (StatementsTree × StatementsTree × List StatementsTree)
  -- behind the word of a statement with parameters
  pub branch : ℕ → Parser (OrderedParamsTree × StatementTree)
  -- behind `once`
  pub statement : ℕ → Parser StatementTree
  -- behind `while`
  pub repeated : ℕ → Parser (ExprTree × StatementTree)
  -- behind `if`
  pub choice : ℕ → Parser (ExprTree × StatementsTree × Option StatementsTree)

-- Each rule, with the rules of what stands in brackets and those of statements that stand one level deeper.
module _ (below : Rules) (inner : StatementRules) where
  -- {STATEMENTS}
  unfoldable pub search_block : Parser SearchBlockTree
  search_block = do
    at ← here
    sign signs.OpenBrace
    t ← inner.statements at
    sign signs.CloseBrace
    pure (roll-SearchBlockTree (record { at = at; statements = t }))

  -- try STATEMENTS | STATEMENTS | .. endtry
  unfoldable pub try_statement : Parser StatementTree
  try_statement = do
    at ← here
    word words.Try
    parts ← inner.alternatives at
    pure (statements_are.Try at parts.0 parts.1 parts.2)

  -- WORD (PARAMS) STATEMENT
  unfoldable pub branch_statement : Parser StatementTree
  branch_statement = do
    at ← here
    op ← one branch_in
    parts ← inner.branch at
    pure (statements_are.Branch at op parts.0 parts.1)

  -- once STATEMENT
  unfoldable pub once_statement : Parser StatementTree
  once_statement = do
    at ← here
    word words.Once
    t ← inner.statement at
    pure (statements_are.Once at t)

  -- while EXPR do STATEMENT
  unfoldable pub while_statement : Parser StatementTree
  while_statement = do
    at ← here
    word words.While
    parts ← inner.repeated at
    pure (statements_are.While at parts.0 parts.1)

  -- if EXPR then STATEMENTS endif, or with else STATEMENTS before endif
  unfoldable pub if_statement : Parser StatementTree
  if_statement = do
    at ← here
    word words.If
    parts ← inner.choice at
    pure (statements_are.If at parts.0 parts.1 parts.2)

  -- WORD (POST)
  unfoldable pub label : Parser StatementTree
  label = do
    at ← here
    op ← one label_in
    t ← asked below
    pure (statements_are.Label at op t)

  -- precedes POST, where what stands before is just a post
  abbrev pub posted_precedes : ℕ → Option PostTree → Parser StatementTree
  posted_precedes at (Some before) = word words.Precedes >> ((λ t. statements_are.Precedes at before t) <$> post below)
  posted_precedes at None = refuse

  -- what a statement that begins with this expression at this place is
  unfoldable pub posted_of : ℕ → ExprTree → Parser StatementTree
  posted_of at t = either (is_word words.Precedes) (posted_precedes at (post_of t)) (pure (statements_are.Constraint t))

  -- EXPR or POST precedes POST
  unfoldable pub posted : Parser StatementTree
  posted = do
    at ← here
    t ← expr below
    posted_of at t

  -- a statement that begins with a word of its own, or with an expression
  unfoldable pub word_statement : Parser StatementTree
  word_statement =
      either (is_word words.Once) once_statement
      (either (is_word words.While) while_statement
      (either (is_word words.If) if_statement
      (either is_label label
      posted)))

  -- a statement
  unfoldable pub statement : Parser StatementTree
  statement =
      either (is_sign signs.OpenBrace) (statements_are.Block <$> search_block)
      (either (is_word words.Try) try_statement
      (either is_branch branch_statement
      word_statement))

  -- STATEMENT (; STATEMENT)* [;]
  unfoldable pub several_statements : Parser StatementsTree
  several_statements = do
    at ← here
    first ← statement
    more ← behind signs.Semicolon starts_statement statement
    pure (lists.Several at first more.0 more.1)

  -- statements, or none
  unfoldable pub statements : Parser StatementsTree
  statements = either starts_statement several_statements (lists.Empty <$> here)

  -- ---- one level more

  -- | STATEMENTS
  unfoldable pub alternative : Parser StatementsTree
  alternative = sign signs.Bar >> statements

  -- STATEMENTS | STATEMENTS | .. endtry
  unfoldable pub alternatives : Parser (StatementsTree × StatementsTree × List StatementsTree)
  alternatives = do
    first ← statements
    second ← alternative
    rest ← after_each signs.Bar statements
    word words.EndTry
    pure (first, second, rest)

  -- (PARAMS)
  unfoldable pub ordered_chosen : Parser OrderedParamsTree
  ordered_chosen = do
    at ← here
    sign signs.OpenParenthesis
    t ← below.ordered at
    sign signs.CloseParenthesis
    pure t

  -- (PARAMS) STATEMENT
  unfoldable pub branch : Parser (OrderedParamsTree × StatementTree)
  branch = do
    t ← ordered_chosen
    body ← statement
    pure (t, body)

  -- EXPR do STATEMENT
  unfoldable pub repeated : Parser (ExprTree × StatementTree)
  repeated = do
    t ← expr below
    word words.Do
    body ← statement
    pure (t, body)

  -- else STATEMENTS
  unfoldable pub otherwise : Parser StatementsTree
  otherwise = word words.Else >> statements

  -- EXPR then STATEMENTS endif, or with else STATEMENTS before endif
  unfoldable pub choice : Parser (ExprTree × StatementsTree × Option StatementsTree)
  choice = do
    t ← expr below
    word words.Then
    body ← statements
    other ← maybe (is_word words.Else) otherwise
    word words.EndIf
    pure (t, body, other)

  -- what is read behind an opening token, over what is one level deeper
  unfoldable pub statement_level : StatementRules
  statement_level = record {
    statements = λ at. statements;
    alternatives = λ at. alternatives;
    branch = λ at. branch;
    statement = λ at. statement;
    repeated = λ at. repeated;
    choice = λ at. choice;
  }

  -- ---- the section

  -- search {STATEMENTS};
  unfoldable pub search_section : Parser SearchTree
  search_section = do
    at ← here
    word words.Search
    t ← search_block
    sign signs.Semicolon
    pure (record { at = at; block = t })

-- no level is left
abbrev pub no_statement_level : StatementRules
no_statement_level = record {
  statements = refuse_level;
  alternatives = refuse_level;
  branch = refuse_level;
  statement = refuse_level;
  repeated = refuse_level;
  choice = refuse_level;
}

-- what is read behind an opening token, where so many levels may be opened
unfoldable pub statement_rules : ℕ → StatementRules
statement_rules zero = no_statement_level
statement_rules (suc n) = statement_level (rules n) (statement_rules n)
