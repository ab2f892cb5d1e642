-- The rule of models.
use Rattle.std.specs.Prelude.{ℕ, List, Option, Some, None, Result, Ok}
use Rattle.opl_token.specs.declared.token.Kind.{Kind}
use Rattle.opl_token.specs.declared.token.Token.{Token}
use Rattle.opl_tree.specs.declared.keyword.Keyword.TheVariants as words
use Rattle.opl_tree.specs.declared.fault.SyntaxFault.{SyntaxFault}
use Rattle.opl_tree.specs.declared.model.ModelTree.{ModelTree}
use Rattle.opl_grammar.specs.Declarations.{decl}
use Rattle.opl_grammar.specs.Input.{Input, Outcome, Parser, Reads, kind, ◌>>=◌, ◌>>◌, pure, refuse, here, maybe, many, is_word}
use Rattle.opl_grammar.specs.Items.{ItemRules, item_rules, instr}
use Rattle.opl_grammar.specs.Rules.{Rules, rules}
use Rattle.opl_grammar.specs.Search.{StatementRules, statement_rules, search_section}
use Rattle.opl_grammar.specs.Tables.{starts_decl}
use Rattle.opl_tree.specs.Depth.{max_nesting}

-- DECL* INSTR [SEARCH]
unfoldable pub model : Rules → ItemRules → StatementRules → Parser ModelTree
model below items statements = do
  at ← here
  decls ← many starts_decl (decl below)
  t ← instr below items
  section ← maybe (is_word words.Search) (search_section below statements)
  pure (record { at = at; decls = decls; instr = t; search = section })

-- no token is left
abbrev pub nothing_left : Option Kind → Option (Unit {0})
nothing_left None = Some tt
nothing_left _ = None

-- reads nothing where that was found
abbrev pub stop_unless : Option (Unit {0}) → Parser (Unit {0})
stop_unless (Some x) i = Ok (tt, i)
stop_unless None i = refuse i

-- the end of the tokens
abbrev pub finish : Parser (Unit {0})
finish = λ i. stop_unless (nothing_left (kind i)) i

-- a model, and nothing behind it, where so many levels may be opened
unfoldable pub whole_within : ℕ → Parser ModelTree
whole_within levels = do
  t ← model (rules levels) (item_rules levels) (statement_rules levels)
  finish
  pure t

-- a model, and nothing behind it
abbrev pub whole : Parser ModelTree
whole = whole_within max_nesting

-- the tokens of a text with this length
abbrev pub start : List Token → ℕ → Input
start tokens end = record { tokens = tokens; end = end }

-- the parser's outcome, unless memory fails, whatever input is left
pub record ReadsAll {A : Type 0} (outcome : Outcome A) (result : Result A SyntaxFault) : Type 0 where
  pub rest : Input
  pub reads : Reads outcome result rest
