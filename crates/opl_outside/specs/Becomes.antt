-- What a thing of the outside holds may be told or not.
use Rattle.std.specs.Prelude.{Option, None, Some, ⊤}

-- what was told before a call is told after it, and P holds of the two; where nothing was told nothing is known
abbrev pub Becomes : {A : Type 0} → Option A → Option A → (A → A → Type 0) → Type 0
Becomes None new P = ⊤
Becomes (Some x) None P = ⊥
Becomes (Some x) (Some y) P = P x y
