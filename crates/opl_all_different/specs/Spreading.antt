-- What becomes of a family where the values of parts that have one are taken from the other parts.
use Rattle.std.specs.Prelude.{◌≡◌, ◌≢◌, ℕ, ◌<◌, Bool, true, false, List, length, ℤ, slice_index_or, Option, Some, None}
use Rattle.opl_domain.specs.Family.{Family}
use Rattle.opl_filter.specs.Filtering.{IsLeftOf}
use Rattle.opl_all_different.specs.declared.part.Part.{Part}
use Rattle.opl_all_different.specs.Parts.{part_at, HasOnly, Misses, clashes}
use Rattle.opl_all_different.specs.Singles.{Singles}

-- the value v of part i, its only one, was taken from part j, if that is another one; this fails where two have the same
abbrev pub TakesFrom : Family → Family → List Part → ℕ → ℕ → ℤ → Bool → Type 0
TakesFrom D F ps i j v true = IsLeftOf (clashes ps) D F × (j ≢ i → Misses F (part_at ps j) v)
TakesFrom D F ps i j v false = (F ≡ D) × (clashes ps D ≡ true)

-- part i has one value, which no other part has
pub record IsSpread (F : Family) (ps : List Part) (i : ℕ) : Type 0 where
  pub value : ℤ
  pub single : HasOnly F (part_at ps i) value
  pub others : (j : ℕ) → j < length ps → j ≢ i → Misses F (part_at ps j) value

-- the value of part i was taken from all others; this fails where two parts have the same
abbrev pub Spreads : Family → Family → List Part → ℕ → Bool → Type 0
Spreads D F ps i true = IsLeftOf (clashes ps) D F × IsSpread F ps i
Spreads D F ps i false = IsLeftOf (clashes ps) D F × (clashes ps F ≡ true)

-- part i is marked as done
abbrev pub is_done : List Bool → ℕ → Bool
is_done done i = slice_index_or done i false

-- part i has one value, and isn't done
pub record IsSingleAt (F : Family) (ps : List Part) (done : List Bool) (i : ℕ) : Type 0 where
  pub place : i < length ps
  pub not_done : is_done done i ≡ false
  pub single : Singles F (part_at ps i) true

-- a part that has one value and isn't done, or none where there is none
abbrev pub IsNextSingle : Family → List Part → List Bool → Option ℕ → Type 0
IsNextSingle F ps done None = (i : ℕ) → i < length ps → is_done done i ≡ false → Singles F (part_at ps i) false
IsNextSingle F ps done (Some i) = IsSingleAt F ps done i
