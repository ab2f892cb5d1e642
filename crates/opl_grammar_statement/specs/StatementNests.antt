-- A function value that reads statements behind a token that opens a level.
use Rattle.std.specs.Prelude.{ℕ, Result}
use Rattle.std.specs.declared.alloc.Global.{Global}
use denote.Ref.{MutBor}
use Rattle.opl_tree.specs.declared.fault.SyntaxFault.{SyntaxFault}
use Rattle.opl_grammar.specs.Input.{Input, Parser, Reads, ◌<$>◌}
use Rattle.opl_grammar.specs.Search.{StatementRules, statement_rules}
use Rattle.opl_grammar_statement.specs.declared.wanted_statements.WantedStatements.{WantedStatements}
use Rattle.opl_grammar_statement.specs.declared.wanted_statements.WantedStatements.TheVariants as wanted
use Rattle.opl_grammar_statement.specs.declared.wanted_statements.FoundStatements.{FoundStatements}
use Rattle.opl_grammar_statement.specs.declared.wanted_statements.FoundStatements.TheVariants as found

-- what is wanted behind the token at this place, by the rules
abbrev pub one_of : StatementRules → ℕ → WantedStatements → Parser FoundStatements
one_of r at wanted.Statements = found.Statements <$> r.statements at
one_of r at wanted.Alternatives = (λ p. found.Alternatives p.0 p.1 p.2) <$> r.alternatives at
one_of r at wanted.Branch = (λ p. found.Branch p.0 p.1) <$> r.branch at
one_of r at wanted.Statement = found.Statement <$> r.statement at
one_of r at wanted.Loop = (λ p. found.Loop p.0 p.1) <$> r.repeated at
one_of r at wanted.Choice = (λ p. found.Choice p.0 p.1 p.2) <$> r.choice at

-- the same, where so many levels may be opened
unfoldable pub read : ℕ → ℕ → WantedStatements → Parser FoundStatements
read levels at w = one_of (statement_rules levels) at w

-- the function value may be called, and reads just that
pub record StatementsNest (levels : ℕ) (pre : Global → MutBor Input → ℕ → ℕ → WantedStatements → Type 0)
    (post : Global → MutBor Input → ℕ → ℕ → WantedStatements → Result FoundStatements SyntaxFault → MutBor Input → Type 0) : Type 0 where
  pub callable : (alloc : Global) (old : MutBor Input) (at : ℕ) (w : WantedStatements) → pre alloc old levels at w
  pub reads : (alloc : Global) (old new : MutBor Input) (at : ℕ) (w : WantedStatements) (r : Result FoundStatements SyntaxFault) → post alloc old levels at w r new
      → Reads (read levels at w old.now) r new.now
