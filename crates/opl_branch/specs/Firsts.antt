-- The first variable without a value, and the order of lists.
use Rattle.std.specs.Prelude.{◌≡◌, ℕ, ◌<◌, Bool, true, false, cond, List, [], ◌∷◌, length, ℤ, int_lt, slice_index_or, Option, Some, None}
use Rattle.opl_domain.specs.Family.{Family, set_of, IsLeast, IsNext}
use Rattle.opl_trace.specs.Answers.{is_single}

-- the variables at the first places of a list have one value each
abbrev pub AreSingle : Family → List ℕ → ℕ → Type 0
AreSingle F xs n = (k : ℕ) → k < n → is_single F (slice_index_or xs k 0) ≡ true

-- the variable at a place has not one value
pub record IsOpenAt (F : Family) (xs : List ℕ) (i : ℕ) : Type 0 where
  pub within : i < length xs
  pub not_single : is_single F (slice_index_or xs i 0) ≡ false
  pub before : AreSingle F xs i

-- the first place of a variable that has not one value, or none
abbrev pub IsFirstOpen : Family → List ℕ → Option ℕ → Type 0
IsFirstOpen F xs None = AreSingle F xs (length xs)
IsFirstOpen F xs (Some i) = IsOpenAt F xs i

-- each variable of the list is one of the family's
abbrev pub AreAmong : Family → List ℕ → Type 0
AreAmong F xs = (k : ℕ) → k < length xs → slice_index_or xs k 0 < length F

-- the first choice of labelling: the first variable of the list that has not one value, with its least value, or none
abbrev pub IsFirstChoice : Family → List ℕ → Option (ℕ × ℤ) → Type 0
IsFirstChoice F xs None = AreSingle F xs (length xs)
IsFirstChoice F xs (Some c) = (i : ℕ) × IsOpenAt F xs i × (c.0 ≡ slice_index_or xs i 0) × IsLeast (set_of F c.0) c.1

-- the choice behind another one: the same variable, with its next value, or none
abbrev pub IsNextChoice : Family → ℕ × ℤ → Option (ℕ × ℤ) → Type 0
IsNextChoice F c None = IsNext (set_of F c.0) c.1 None
IsNextChoice F c (Some d) = (d.0 ≡ c.0) × IsNext (set_of F c.0) c.1 (Some d.1)

-- one list comes before another of equal length: at the first place where they differ its number is less
abbrev pub is_before : List ℤ → List ℤ → Bool
is_before [] vs = false
is_before (u ∷ us) [] = false
is_before (u ∷ us) (v ∷ vs) = cond (int_lt u v) true (cond (int_lt v u) false (is_before us vs))
