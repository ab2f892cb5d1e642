-- The places of values in the rising order of the values, and the dimension that lists values.
use Rattle.std.specs.Prelude.{◌==◌, ◌≤◌, ℕ, zero, suc, Bool, List, [], ◌∷◌, cond, length}
use Rattle.std.specs.List.{count_by}
use Rattle.std.specs.Ordering.{is_lt}
use Rattle.opl_value.specs.declared.value.Value.{Value}
use Rattle.opl_value.specs.declared.value.Dimension.{Dimension}
use Rattle.opl_value.specs.declared.value.Dimension.TheVariants as dimensions
use Rattle.opl_value.specs.Order.{value_cmp}
use Rattle.opl_value.specs.Places.{value_at}

-- whether the value at the first place is less than that at the second
abbrev pub is_below : List Value → ℕ → ℕ → Bool
is_below values p q = is_lt (value_cmp (value_at values p) (value_at values q))

-- the place among places whose values rise: before the first of a greater value
abbrev pub insert_place : List Value → ℕ → List ℕ → List ℕ
insert_place values p [] = p ∷ []
insert_place values p (q ∷ qs) = cond (is_below values p q) (p ∷ q ∷ qs) (q ∷ insert_place values p qs)

-- the places below n, in the rising order of their values
unfoldable pub rising_below : List Value → ℕ → List ℕ
rising_below values zero = []
rising_below values (suc n) = insert_place values n (rising_below values n)

-- the places of all values of a list, in the rising order of the values
unfoldable pub rising_of : List Value → List ℕ
rising_of values = rising_below values (length values)

-- the dimension of these values
unfoldable pub listed_dimension : List Value → Dimension
listed_dimension values = dimensions.Listed values (rising_of values)

-- no number stands twice in a list
abbrev pub StandOnce : List ℕ → Type 0
StandOnce ns = (n : ℕ) → count_by (λ m. m == n) ns ≤ 1
