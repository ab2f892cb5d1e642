-- When a value is of a type of expressions. The types of a struct's fields and the number of an enumeration's names are told by the number of its declaration.
use Rattle.std.specs.Prelude.{◌≡◌, ◌<◌, ℕ, ℤ, Bool, true, false, ◌&&◌, List, [], ◌∷◌, length}
use Rattle.opl_type_rules.specs.Types.{Sort, Sorts}
use Rattle.opl_type_rules.specs.Types.Sort.{int, bool, enumeration, structure, row, set, empty_set, array, activity, unary, discrete}
use Rattle.opl_type_rules.specs.Types.Sorts.{no_sorts, more_sorts}
use Rattle.opl_value.specs.declared.value.Value.{Value}
use Rattle.opl_value.specs.declared.value.Value.TheVariants as values
use Rattle.opl_value.specs.declared.value.IndexSpace.{IndexSpace}
use Rattle.opl_value.specs.Places.{AreDifferent, elements, lists}

-- what a declaration may write as a type
abbrev pub is_plain : Sort → Bool
is_plain int = true
is_plain (enumeration k) = true
is_plain (structure k) = true
is_plain (set s) = is_plain s
is_plain s = false

-- and all of these
abbrev pub are_plain : Sorts → Bool
are_plain no_sorts = true
are_plain (more_sorts s ss) = is_plain s && are_plain ss

-- what an array of data or of resources may have as elements
abbrev pub is_element : Sort → Bool
is_element unary = true
is_element discrete = true
is_element s = is_plain s

-- what a name may be that is no decision: no activity, and no array of activities or of arrays
abbrev pub is_of_data : Sort → Bool
is_of_data activity = false
is_of_data (array indices s) = is_element s
is_of_data s = true

module _ (fields : ℕ → Sorts) (names : ℕ → ℕ) where
  mutual
    pub data HasSort : Sort → Value → Type 0 where
      -- a number, and a truth value
      a_number : (n : ℤ) → HasSort int (values.Int n)
      a_truth : (b : Bool) → HasSort bool (values.Bool b)
      -- a name of an enumeration, by its position
      a_name : (k p : ℕ) → p < names k → HasSort (enumeration k) (values.Enum k p)
      -- a record of a struct, and one with parts of these types
      a_record : (k : ℕ) (vs : List Value) → HaveSorts (fields k) vs → HasSort (structure k) (values.Record vs)
      a_row : (ss : Sorts) (vs : List Value) → HaveSorts ss vs → HasSort (row ss) (values.Record vs)
      -- a set, whose elements differ, and `{}`
      a_set : (s : Sort) (vs : List Value) → AllHaveSort s vs → AreDifferent vs → HasSort (set s) (values.Set vs)
      no_elements : HasSort empty_set (values.Set [])

    -- as many values as types, each of its own
    pub data HaveSorts : Sorts → List Value → Type 0 where
      no_parts : HaveSorts no_sorts []
      more_parts : (s : Sort) (v : Value) (ss : Sorts) (vs : List Value) → HasSort s v → HaveSorts ss vs → HaveSorts (more_sorts s ss) (v ∷ vs)

    -- values of the one type
    pub data AllHaveSort : Sort → List Value → Type 0 where
      none_has : (s : Sort) → AllHaveSort s []
      more_have : (s : Sort) (v : Value) (vs : List Value) → HasSort s v → AllHaveSort s vs → AllHaveSort s (v ∷ vs)

  -- an array of such, with a cell for each key
  pub record IsArrayOf (s : Sort) (v : Value) : Type 0 where
    pub space : IndexSpace
    pub cells : List Value
    pub is : v ≡ values.Array space cells
    pub each : AllHaveSort s cells
    pub filled : length cells ≡ elements (lists space)
