-- Forms that are to differ from 0: which of their variables have more than one value, and which value of the last such one can go.
use Rattle.std.specs.Prelude.{◌≡◌, ◌≢◌, ℕ, ◌≤◌, ◌<◌, Bool, true, false, List, length, ℤ, pos, ◌+ℤ◌, ◌*ℤ◌, ◌<ℤ◌, Option, Some, None, slice_index_or}
use Rattle.opl_domain.specs.Family.{Family, hull, has, cut_of}

-- variable x has one value, or more
abbrev pub Fixes : Family → ℕ → Bool → Type 0
Fixes F x true = (hull F x).low ≡ (hull F x).high
Fixes F x false = (hull F x).low <ℤ (hull F x).high

-- the variable at a place of a list
abbrev pub variable_at : List (ℕ × ℤ) → ℕ → ℕ
variable_at ps i = (slice_index_or ps i (0, pos 0)).0

-- the first place from another one on whose variable has more than one value; where there is none, it is behind the list
pub record IsNextOpen (F : Family) (ps : List (ℕ × ℤ)) (from at : ℕ) : Type 0 where
  pub least : from ≤ at
  pub most : at ≤ length ps
  pub skipped : (i : ℕ) → from ≤ i → i < at → Fixes F (variable_at ps i) true
  pub has_more : at < length ps → Fixes F (variable_at ps at) false

-- a number as a value of variable x, or none where it isn't one
abbrev pub IsValueOf : Family → ℕ → ℤ → Option ℤ → Type 0
IsValueOf F x v None = has F x v ≡ false
IsValueOf F x v (Some w) = (w ≡ v) × (has F x v ≡ true)

-- x has lost the one value that makes its multiple and r zero
pub record HasAvoided (F G : Family) (x : ℕ) (a r : ℤ) : Type 0 where
  pub value : ℤ
  pub had : has F x value ≡ true
  pub zero : (r +ℤ (a *ℤ value)) ≡ pos 0
  pub alone : (w : ℤ) → (r +ℤ (a *ℤ w)) ≡ pos 0 → w ≡ value
  pub left : G ≡ cut_of F x value value
  pub stays : (w : ℤ) × (has (cut_of F x value value) x w ≡ true)

-- so it is, or x has no such value and nothing has gone
abbrev pub Avoids : Family → Family → ℕ → ℤ → ℤ → Bool → Type 0
Avoids F G x a r true = HasAvoided F G x a r
Avoids F G x a r false = (G ≡ F) × ((w : ℤ) → has F x w ≡ true → (r +ℤ (a *ℤ w)) ≢ pos 0)
