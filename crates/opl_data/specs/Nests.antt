-- A function value that reads what stands one level deeper.
use Rattle.std.specs.Prelude.{ℕ, Result}
use Rattle.std.specs.declared.alloc.Global.{Global}
use denote.Ref.{MutBor}
use Rattle.opl_tree.specs.declared.fault.SyntaxFault.{SyntaxFault}
use Rattle.opl_grammar.specs.Input.{Input, Reads}
use Rattle.opl_data.specs.declared.tree.DataValue.{DataValue}
use Rattle.opl_data.specs.Grammar.{value_within}

-- the function value may be called, and reads a value where so many levels may be opened
pub record Nests (levels : ℕ) (pre : Global → MutBor Input → ℕ → Type 0)
    (post : Global → MutBor Input → ℕ → Result DataValue SyntaxFault → MutBor Input → Type 0) : Type 0 where
  pub callable : (alloc : Global) (old : MutBor Input) → pre alloc old levels
  pub reads : (alloc : Global) (old new : MutBor Input) (r : Result DataValue SyntaxFault) → post alloc old levels r new
      → Reads (value_within levels old.now) r new.now
