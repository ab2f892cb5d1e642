-- Where the element is that subscripts name under an assignment.
use Rattle.std.specs.Prelude.{ℕ, Bool, List, [], ◌∷◌, Option, Some, None, is_some}
use Rattle.opl_value.specs.declared.value.Value.{Value}
use Rattle.opl_value.specs.Places.{elements, joint, place_in}
use Rattle.opl_held.specs.Outcomes.{Worth, data_of, value_of}

-- The place of a value, if there is one.
abbrev pub place_or_none : List Value → Option Value → Option ℕ
place_or_none d None = None
place_or_none d (Some v) = place_in v d

-- The place of the element, where all subscripts are defined and each is an index of its dimension.
abbrev pub key_place : List (List Value) → List Worth → Option ℕ
key_place [] [] = Some 0
key_place (d ∷ ds) (o ∷ os) = joint (elements ds) (place_or_none d (value_of o)) (key_place ds os)
key_place ds os = None

-- No variable is left in a part.
abbrev pub is_fixed : Worth → Bool
is_fixed o = is_some (data_of o)
