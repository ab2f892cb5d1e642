-- Laws of values, in words of their own.
use Rattle.std.specs.Prelude.{◌≡◌, ◌↔◌, ◌<◌, ℕ, ℤ, List, [], ◌∷◌, Some, IsTrue}
use Rattle.std.specs.Cmp.{IsTotalOrder}
use Rattle.std.specs.List.{list_any}
use Rattle.opl_value.specs.declared.value.Value.{Value}
use Rattle.opl_value.specs.declared.value.IndexSpace.{IndexSpace}
use Rattle.opl_value.specs.declared.value.Dimension.{Dimension}
use Rattle.opl_value.specs.declared.value.Dimension.TheVariants.{Whole}
use Rattle.opl_value.specs.Order.{value_cmp, value_eq}
use Rattle.opl_value.specs.Places.{AreDifferent, AreRising, IsSorted, dimension_values, dimensions, elements, numbers_between, place_in, place_of, space_of}
use Rattle.opl_value.specs.Rising.{StandOnce, listed_dimension, rising_of}
use Rattle.opl_value.specs.Sets.{first_occurrences}

-- `==` holds of equal values alone
abbrev pub EqualIsSame : Type 0
EqualIsSame = (a b : Value) → IsTrue (value_eq a b) ↔ (a ≡ b)

-- the order of values is total
abbrev pub OrderIsTotal : Type 0
OrderIsTotal = IsTotalOrder value_cmp

-- a place is below the number of keys
abbrev pub PlacesAreBelow : Type 0
PlacesAreBelow = (ds : List (List Value)) (key : List Value) (p : ℕ) → place_of ds key ≡ Some p → p < elements ds

-- different keys have different places
abbrev pub PlacesAreApart : Type 0
PlacesAreApart = (ds : List (List Value)) (j k : List Value) (p : ℕ) → place_of ds j ≡ Some p → place_of ds k ≡ Some p → j ≡ k

-- the values of each list differ
abbrev pub AllDiffer : List (List Value) → Type 0
AllDiffer [] = Unit {0}
AllDiffer (d ∷ ds) = AreDifferent d × AllDiffer ds

-- each number below that of the keys is the place of a key
abbrev pub EachNumberIsAPlace : Type 0
EachNumberIsAPlace = (ds : List (List Value)) → AllDiffer ds → (p : ℕ) → p < elements ds → (key : List Value) × (place_of ds key ≡ Some p)

-- a set's values differ
abbrev pub SetsDiffer : Type 0
SetsDiffer = (vs : List Value) → AreDifferent (first_occurrences vs)

-- a value is in a set exactly where it is in the list
abbrev pub SetsKeepMembers : Type 0
SetsKeepMembers = (vs : List Value) (v : Value) → list_any (value_eq v) (first_occurrences vs) ≡ list_any (value_eq v) vs

-- of two values of a set, that which comes first in it comes first in the list
abbrev pub SetsKeepOrder : Type 0
SetsKeepOrder = (vs : List Value) (v w : Value) (i j p q : ℕ) → place_in v (first_occurrences vs) ≡ Some i → place_in w (first_occurrences vs) ≡ Some j
    → place_in v vs ≡ Some p → place_in w vs ≡ Some q → i < j → p < q

-- values that differ are a set as they stand
abbrev pub DifferentValuesStay : Type 0
DifferentValuesStay = (vs : List Value) → AreDifferent vs → first_occurrences vs ≡ vs

-- the places of values in rising order, none twice, are those of `rising_of`
abbrev pub RisingPlacesAreOne : Type 0
RisingPlacesAreOne = (values : List Value) (rising : List ℕ) → AreRising values rising → StandOnce rising → rising ≡ rising_of values

-- of values that differ, `rising_of` has the places in rising order
abbrev pub DifferentValuesRise : Type 0
DifferentValuesRise = (values : List Value) → AreDifferent values → AreRising values (rising_of values)

-- it has none twice
abbrev pub RisingPlacesStandOnce : Type 0
RisingPlacesStandOnce = (values : List Value) → AreDifferent values → StandOnce (rising_of values)

-- the values of a dimension that lists values are these values
abbrev pub ListedHasItsValues : Type 0
ListedHasItsValues = (values : List Value) → dimension_values (listed_dimension values) ≡ values

-- where the values differ, places can be found by it
abbrev pub ListedIsSorted : Type 0
ListedIsSorted = (values : List Value) → AreDifferent values → IsSorted (listed_dimension values)

-- the values of a dimension of whole numbers are those from the first to the second
abbrev pub WholeHasItsNumbers : Type 0
WholeHasItsNumbers = (low high : ℤ) → dimension_values (Whole low high) ≡ numbers_between low high

-- places can be found by it
abbrev pub WholeIsSorted : Type 0
WholeIsSorted = (low high : ℤ) → IsSorted (Whole low high)

-- the index space of dimensions has these dimensions
abbrev pub SpaceHasItsDimensions : Type 0
SpaceHasItsDimensions = (ds : List Dimension) → dimensions (space_of ds) ≡ ds

-- an index space with these dimensions is the one of them
abbrev pub SpaceIsOfItsDimensions : Type 0
SpaceIsOfItsDimensions = (space : IndexSpace) (ds : List Dimension) → dimensions space ≡ ds → space ≡ space_of ds
