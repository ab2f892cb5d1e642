-- A function value that reads what stands behind a token that opens a level.
use Rattle.std.specs.Prelude.{ℕ, Bool, true, false, Result}
use Rattle.std.specs.declared.alloc.Global.{Global}
use denote.Ref.{MutBor}
use Rattle.opl_tree.specs.declared.fault.SyntaxFault.{SyntaxFault}
use Rattle.opl_grammar.specs.Input.{Input, Parser, Reads, ◌<$>◌}
use Rattle.opl_grammar.specs.Rules.{Rules, rules}
use Rattle.opl_phrase.specs.declared.wanted.Wanted.{Wanted}
use Rattle.opl_phrase.specs.declared.wanted.Wanted.TheVariants as wanted
use Rattle.opl_phrase.specs.declared.wanted.Found.{Found}
use Rattle.opl_phrase.specs.declared.wanted.Found.TheVariants as found

-- what is wanted behind the token at this place, by the rules
abbrev pub one_of : Rules → ℕ → Wanted → Parser Found
one_of r at wanted.Expr = found.Expr <$> r.expr at
one_of r at wanted.Add = found.Add <$> r.add at
one_of r at wanted.Post = found.Post <$> r.post at
one_of r at wanted.Params = found.Params <$> r.params at
one_of r at wanted.Ordered = found.Ordered <$> r.ordered at
one_of r at wanted.Ends = (λ p. found.Ends p.0 p.1) <$> r.ends at
one_of r at wanted.Imp = found.Imp <$> r.imp at
one_of r at wanted.Neg = found.Neg <$> r.neg at
one_of r at wanted.Operand = found.Operand <$> r.operand at
one_of r at wanted.Aggregate = (λ p. found.Aggregate p.0 p.1) <$> r.aggregate at
one_of r at wanted.Adds = (λ p. found.Adds p.0 p.1) <$> r.adds at
one_of r at wanted.Listed = found.Listed <$> r.listed at
one_of r at wanted.Keyed = found.Keyed <$> r.keyed at
one_of r at wanted.Braced = found.Braced <$> r.braced at
one_of r at wanted.Names = (λ p. found.Names p.0 p.1) <$> r.names at
one_of r at wanted.Type = found.Type <$> r.type_tree at
one_of r at wanted.Fields = (λ p. found.Fields p.0 p.1) <$> r.fields at
one_of r at wanted.Dims = (λ p. found.Dims p.0 p.1) <$> r.dims at

-- whether this is asked of one part of the rules
abbrev pub asks_parenthesized : Wanted → Bool
asks_parenthesized wanted.Expr = true
asks_parenthesized wanted.Add = true
asks_parenthesized wanted.Post = true
asks_parenthesized wanted.Params = true
asks_parenthesized wanted.Ordered = true
asks_parenthesized wanted.Ends = true
asks_parenthesized _ = false

-- whether this is asked of one part of the rules
abbrev pub asks_operated : Wanted → Bool
asks_operated wanted.Imp = true
asks_operated wanted.Neg = true
asks_operated wanted.Operand = true
asks_operated wanted.Aggregate = true
asks_operated _ = false

-- whether this is asked of one part of the rules
abbrev pub asks_listed_in : Wanted → Bool
asks_listed_in wanted.Adds = true
asks_listed_in wanted.Listed = true
asks_listed_in wanted.Keyed = true
asks_listed_in wanted.Braced = true
asks_listed_in _ = false

-- whether this is asked of one part of the rules
abbrev pub asks_declared : Wanted → Bool
asks_declared wanted.Names = true
asks_declared wanted.Type = true
asks_declared wanted.Fields = true
asks_declared wanted.Dims = true
asks_declared _ = false

-- the same, where so many levels may be opened
unfoldable pub read : ℕ → ℕ → Wanted → Parser Found
read levels at w = one_of (rules levels) at w

-- the function value may be called, and reads just that
pub record Nests (levels : ℕ) (pre : Global → MutBor Input → ℕ → ℕ → Wanted → Type 0)
    (post : Global → MutBor Input → ℕ → ℕ → Wanted → Result Found SyntaxFault → MutBor Input → Type 0) : Type 0 where
  pub callable : (alloc : Global) (old : MutBor Input) (at : ℕ) (w : Wanted) → pre alloc old levels at w
  pub reads : (alloc : Global) (old new : MutBor Input) (at : ℕ) (w : Wanted) (r : Result Found SyntaxFault) → post alloc old levels at w r new
      → Reads (read levels at w old.now) r new.now
