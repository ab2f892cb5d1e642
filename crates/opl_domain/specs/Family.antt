-- Sets of whole numbers, and families of them: one set for each variable.
use Rattle.std.specs.Prelude.{◌||◌, ◌≡◌, ℕ, ◌<◌, ◌≤◌, Bool, true, false, cond, List, [], ◌∷◌, length, ℤ, pos, ◌≤ℤ◌, ◌<ℤ◌, int_lt, Option, Some, None, slice_index_or, slice_set}
use Rattle.std.specs.List.{filter}
use Rattle.std.specs.Ordering.{int_eq}
use Rattle.opl_domain.specs.Span.{Span, hull_of}

-- the number v is one of the list
abbrev pub member : ℤ → List ℤ → Bool
member v [] = false
member v (w ∷ others) = cond (int_eq v w) true (member v others)

-- the numbers of the list rise, so none stands twice
abbrev pub IsRising : List ℤ → Type 0
IsRising [] = Unit {0}
IsRising (v ∷ others) = ((w : ℤ) → member w others ≡ true → v <ℤ w) × IsRising others

-- the least number of a list
pub record IsLeast (xs : List ℤ) (v : ℤ) : Type 0 where
  pub among : member v xs ≡ true
  pub least : (w : ℤ) → member w xs ≡ true → v ≤ℤ w

-- the greatest number of a list
pub record IsGreatest (xs : List ℤ) (v : ℤ) : Type 0 where
  pub among : member v xs ≡ true
  pub most : (w : ℤ) → member w xs ≡ true → w ≤ℤ v

-- the least number of a list above another, or none
pub record IsLeastAbove (xs : List ℤ) (after v : ℤ) : Type 0 where
  pub among : member v xs ≡ true
  pub above : after <ℤ v
  pub least : (w : ℤ) → member w xs ≡ true → after <ℤ w → v ≤ℤ w

abbrev pub IsNext : List ℤ → ℤ → Option ℤ → Type 0
IsNext xs after None = (w : ℤ) → member w xs ≡ true → w ≤ℤ after
IsNext xs after (Some v) = IsLeastAbove xs after v

-- n numbers of the list are at most v: those before place n, and no others
pub record IsRank (xs : List ℤ) (v : ℤ) (n : ℕ) : Type 0 where
  pub bound : n ≤ length xs
  pub before : (k : ℕ) → k < n → slice_index_or xs k (pos 0) ≤ℤ v
  pub behind : (k : ℕ) → n ≤ k → k < length xs → v <ℤ slice_index_or xs k (pos 0)

-- a family: for each variable, by its number, the list of the values of its set
abbrev pub Family : Type 0
Family = List (List ℤ)

-- the values of variable x; none where there is no such variable
unfoldable pub set_of : Family → ℕ → List ℤ
set_of F x = slice_index_or F x []

-- v is a value of variable x
abbrev pub has : Family → ℕ → ℤ → Bool
has F x v = member v (set_of F x)

-- the family in which variable x has the value v alone
unfoldable pub only : Family → ℕ → ℤ → Family
only F x v = slice_set F x (v ∷ [])

-- v is below lo or above hi
unfoldable pub is_outside : ℤ → ℤ → ℤ → Bool
is_outside lo hi v = int_lt v lo || int_lt hi v

-- the numbers of the list that are below lo or above hi
abbrev pub outside : ℤ → ℤ → List ℤ → List ℤ
outside lo hi = filter (is_outside lo hi)

-- the family in which variable x has lost its values from lo to hi
unfoldable pub cut_of : Family → ℕ → ℤ → ℤ → Family
cut_of F x lo hi = slice_set F x (outside lo hi (set_of F x))

-- the hull of the set of variable x
unfoldable pub hull : Family → ℕ → Span
hull F x = hull_of (set_of F x)

-- each set of F is within that of G
abbrev pub Sub : Family → Family → Type 0
Sub F G = (x : ℕ) (v : ℤ) → has F x v ≡ true → has G x v ≡ true

-- F and G have the same variables, and each set of F is within that of G
pub record Below (F G : Family) : Type 0 where
  pub sub : Sub F G
  pub same : length F ≡ length G

-- no set is empty
abbrev pub Full : Family → Type 0
Full F = (x : ℕ) → x < length F → (v : ℤ) × (has F x v ≡ true)

-- each set has a value, and lists its values rising
pub record IsFamily (F : Family) : Type 0 where
  pub full : Full F
  pub rising : (x : ℕ) → IsRising (set_of F x)

-- the most values that one set may have
abbrev pub most_values : ℕ
most_values = 1048576

-- a set of a variable: rising, not empty, and not too large
pub record IsDomain (xs : List ℤ) : Type 0 where
  pub rising : IsRising xs
  pub some : 0 < length xs
  pub few : length xs ≤ most_values
