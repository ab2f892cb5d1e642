-- A function value that reads items behind a token that opens a level.
use Rattle.std.specs.Prelude.{ℕ, Result}
use Rattle.std.specs.declared.alloc.Global.{Global}
use denote.Ref.{MutBor}
use Rattle.opl_tree.specs.declared.fault.SyntaxFault.{SyntaxFault}
use Rattle.opl_grammar.specs.Input.{Input, Parser, Reads, ◌<$>◌}
use Rattle.opl_grammar.specs.Items.{ItemRules, item_rules}
use Rattle.opl_grammar_item.specs.declared.wanted_items.WantedItems.{WantedItems}
use Rattle.opl_grammar_item.specs.declared.wanted_items.WantedItems.TheVariants as wanted
use Rattle.opl_grammar_item.specs.declared.wanted_items.FoundItems.{FoundItems}
use Rattle.opl_grammar_item.specs.declared.wanted_items.FoundItems.TheVariants as found

-- what is wanted behind the token at this place, by the rules
abbrev pub one_of : ItemRules → ℕ → WantedItems → Parser FoundItems
one_of r at wanted.Items = found.Items <$> r.items at
one_of r at wanted.ForAll = (λ p. found.ForAll p.0 p.1) <$> r.for_all at
one_of r at wanted.Branches = (λ p. found.Branches p.0 p.1 p.2) <$> r.branches at

-- the same, where so many levels may be opened
unfoldable pub read : ℕ → ℕ → WantedItems → Parser FoundItems
read levels at w = one_of (item_rules levels) at w

-- the function value may be called, and reads just that
pub record ItemsNest (levels : ℕ) (pre : Global → MutBor Input → ℕ → ℕ → WantedItems → Type 0)
    (post : Global → MutBor Input → ℕ → ℕ → WantedItems → Result FoundItems SyntaxFault → MutBor Input → Type 0) : Type 0 where
  pub callable : (alloc : Global) (old : MutBor Input) (at : ℕ) (w : WantedItems) → pre alloc old levels at w
  pub reads : (alloc : Global) (old new : MutBor Input) (at : ℕ) (w : WantedItems) (r : Result FoundItems SyntaxFault) → post alloc old levels at w r new
      → Reads (read levels at w old.now) r new.now
