-- Sets, places and rising orders, worked out by hand.
use Rattle.std.proofs.Common.{◌≡◌, ℤ, pos, negsuc, List, [], ◌∷◌, map, Some, None, refl}
use Rattle.opl_value.specs.declared.value.Value.{Value}
use Rattle.opl_value.specs.declared.value.Value.TheVariants.{Int, Record}
use Rattle.opl_value.specs.declared.value.Dimension.{Dimension}
use Rattle.opl_value.specs.declared.value.Dimension.TheVariants.{Whole, Listed}
use Rattle.opl_value.specs.Places.{dimension_values, elements, place_of}
use Rattle.opl_value.specs.Rising.{listed_dimension, rising_below, rising_of}
use Rattle.opl_value.specs.Sets.{first_occurrences}
use Rattle.opl_value.proofs.Places.{values-Whole, values-Listed}
use Rattle.opl_value.proofs.Trees.{trees}

-- the record <a, b>
abbrev pair : ℤ → ℤ → Value
pair a b = Record (Int a ∷ Int b ∷ [])

-- {2, 1, 2, 3, 1} is {2, 1, 3}
numbers : first_occurrences (Int (pos 2) ∷ Int (pos 1) ∷ Int (pos 2) ∷ Int (pos 3) ∷ Int (pos 1) ∷ []) ≡ Int (pos 2) ∷ Int (pos 1) ∷ Int (pos 3) ∷ []
numbers = simp trees refl

-- {<2,3>, <1,2>, <2,3>} is {<2,3>, <1,2>}
records : first_occurrences (pair (pos 2) (pos 3) ∷ pair (pos 1) (pos 2) ∷ pair (pos 2) (pos 3) ∷ []) ≡ pair (pos 2) (pos 3) ∷ pair (pos 1) (pos 2) ∷ []
records = simp trees refl

-- the keys of {<2,3>, <1,2>} and -1..1
abbrev keys : List Dimension
keys = Listed (pair (pos 2) (pos 3) ∷ pair (pos 1) (pos 2) ∷ []) (1 ∷ 0 ∷ []) ∷ Whole (negsuc 0) (pos 1) ∷ []

six : elements (map dimension_values keys) ≡ 6
six = simp (values-Whole, values-Listed) refl

-- <1,2> is the second of its dimension, and 0 of its own
fifth : place_of (map dimension_values keys) (pair (pos 1) (pos 2) ∷ Int (pos 0) ∷ []) ≡ Some 4
fifth = simp (values-Whole, values-Listed, trees) refl

-- <1,3> is not there
nowhere : place_of (map dimension_values keys) (pair (pos 1) (pos 3) ∷ Int (pos 0) ∷ []) ≡ None
nowhere = simp (values-Whole, values-Listed, trees) refl

-- a key of one component is none
short : place_of (map dimension_values keys) (pair (pos 1) (pos 2) ∷ []) ≡ None
short = simp (values-Whole, values-Listed, trees) refl

-- of 3, 1, 2 the second is the least, and the first the greatest
rising : rising_of (Int (pos 3) ∷ Int (pos 1) ∷ Int (pos 2) ∷ []) ≡ 1 ∷ 2 ∷ 0 ∷ []
unfolding rising_of rising_below
rising = simp trees refl

-- the dimension {<2,3>, <1,2>}
pairs : listed_dimension (pair (pos 2) (pos 3) ∷ pair (pos 1) (pos 2) ∷ []) ≡ Listed (pair (pos 2) (pos 3) ∷ pair (pos 1) (pos 2) ∷ []) (1 ∷ 0 ∷ [])
unfolding listed_dimension rising_of rising_below
pairs = simp trees refl
