-- Index spaces as lists of lists of values, and the places of their keys.
use Rattle.std.specs.Prelude.{◌≡◌, ◌==◌, Bool, true, false, ℕ, zero, suc, ◌+◌, ◌*◌, ◌<◌, ℤ, pos, negsuc, ◌+ℤ◌, ◌-ℤ◌, List, [], ◌∷◌, cond, length, map, slice_index, slice_index_or, Option, None, Some}
use Rattle.std.specs.List.{list_any}
use Rattle.std.specs.Option.{option_map}
use Rattle.std.specs.Ordering.{is_gt}
use Rattle.opl_value.specs.declared.value.Value.{Value}
use Rattle.opl_value.specs.declared.value.Value.TheVariants.{Int}
use Rattle.opl_value.specs.declared.value.IndexSpace.{IndexSpace}
use Rattle.opl_value.specs.declared.value.Dimension.{Dimension}
use Rattle.opl_value.specs.declared.value.Dimension.TheOpen.{Dimension-F}
use Rattle.opl_value.specs.declared.value.Dimension.TheViews.{out-Dimension, out-IndexSpace, roll-IndexSpace}
use Rattle.opl_value.specs.Order.{value_cmp, value_eq}

-- ---- dimensions

-- the value at a place of a list
abbrev pub value_at : List Value → ℕ → Value
value_at vs k = slice_index_or vs k (Int (pos 0))

-- no value stands twice
abbrev pub AreDifferent : List Value → Type 0
AreDifferent vs = (j k : ℕ) → j < length vs → k < length vs → value_at vs j ≡ value_at vs k → j ≡ k

-- so many whole numbers from the first on
abbrev pub numbers_from : ℤ → ℕ → List Value
numbers_from low zero = []
numbers_from low (suc n) = Int low ∷ numbers_from (low +ℤ pos 1) n

-- the number, and 0 for those below 0
abbrev pub or_zero : ℤ → ℕ
or_zero (pos n) = n
or_zero (negsuc n) = 0

-- the whole numbers from the first to the second
abbrev pub numbers_between : ℤ → ℤ → List Value
numbers_between low high = numbers_from low (or_zero (high +ℤ pos 1 -ℤ low))

-- the values of a dimension, in the order of their places
abbrev pub values_layer : {A C : Type 0} → Dimension-F A Value C → List Value
values_layer (Dimension-F.Whole low high) = numbers_between low high
values_layer (Dimension-F.Listed values rising) = values

abbrev pub dimension_values : Dimension → List Value
dimension_values d = values_layer (out-Dimension d)

-- different values, and the places of all of them in their rising order
pub record AreRising (values : List Value) (rising : List ℕ) : Type 0 where
  pub different : AreDifferent values
  pub within : (k : ℕ) → k < length rising → slice_index rising k < length values
  pub each : (j : ℕ) → j < length values → list_any (λ k. k == j) rising ≡ true
  pub rise : (j k : ℕ) → j < k → k < length rising → is_gt (value_cmp (value_at values (slice_index rising j)) (value_at values (slice_index rising k))) ≡ false

-- a dimension by which places can be found
abbrev pub sorted_layer : {A C : Type 0} → Dimension-F A Value C → Type 0
sorted_layer (Dimension-F.Whole low high) = Unit {0}
sorted_layer (Dimension-F.Listed values rising) = AreRising values rising

abbrev pub IsSorted : Dimension → Type 0
IsSorted d = sorted_layer (out-Dimension d)

abbrev pub AreSorted : List Dimension → Type 0
AreSorted [] = Unit {0}
AreSorted (d ∷ ds) = IsSorted d × AreSorted ds

-- ---- index spaces

-- the dimensions of an index space, and each as the list of its values
abbrev pub dimensions : IndexSpace → List Dimension
dimensions space = (out-IndexSpace space).dims

abbrev pub lists : IndexSpace → List (List Value)
lists space = map dimension_values (dimensions space)

-- the index space of these dimensions
abbrev pub space_of : List Dimension → IndexSpace
space_of ds = roll-IndexSpace (record { dims = ds })

-- ---- places

-- the place of the first such value in a list
abbrev pub place_in : Value → List Value → Option ℕ
place_in v [] = None
place_in v (w ∷ ws) = cond (value_eq v w) (Some 0) (option_map suc (place_in v ws))

-- whether a list is empty
abbrev pub has_none : List Value → Bool
has_none vs = length vs == 0

-- the number of keys
abbrev pub elements : List (List Value) → ℕ
elements [] = 1
elements (d ∷ ds) = length d * elements ds

-- a place in the first dimension and one in the others, of so many keys
abbrev pub joint : ℕ → Option ℕ → Option ℕ → Option ℕ
joint n (Some p) (Some q) = Some (p * n + q)
joint n p q = None

-- the place of a key: the last dimension varies fastest
abbrev pub place_of : List (List Value) → List Value → Option ℕ
place_of [] [] = Some 0
place_of (d ∷ ds) (v ∷ vs) = joint (elements ds) (place_in v d) (place_of ds vs)
place_of ds vs = None

-- the place of a key behind so many groups of n
abbrev pub behind : ℕ → ℕ → Option ℕ → Option ℕ
behind before n p = option_map (λ q. before * n + q) p
