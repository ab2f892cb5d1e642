-- Where the element is that subscripts name, and which subscripts an array takes.
use Rattle.std.specs.Prelude.{◌+◌, ◌^◌, ℕ, Bool, true, false, cond, nat_lt, ◌&&◌, List, [], ◌∷◌, map, Option, Some, None}
use Rattle.opl_value.specs.declared.value.Value.{Value}
use Rattle.opl_value.specs.Places.{elements, joint, place_in}
use Rattle.opl_expr.specs.declared.forms.Expr.{Expr}
use Rattle.opl_expr.specs.Sound.{greatest_abs}
use Rattle.opl_form.specs.Parts.{Form, all_alike, indices_of, is_index, key_sort, ranked}
use Rattle.opl_form.specs.Parts.Form.{known}
use Rattle.opl_form.specs.Measures as measures
use Rattle.opl_nodes.specs.declared.context.Context.{Context}
use Rattle.opl_nodes.specs.declared.part.Part.{Part}
use Rattle.opl_nodes.specs.Pieces.{form, magnitude}

-- The place of a subscript without variables in its dimension.
abbrev pub subscript_place : List Value → Form → Option ℕ
subscript_place d (known v) = place_in v d
subscript_place d g = None

-- The place of the element that subscripts without variables name: the last dimension varies fastest.
abbrev pub key_place : List (List Value) → List Form → Option ℕ
key_place [] [] = Some 0
key_place (d ∷ ds) (g ∷ gs) = joint (elements ds) (subscript_place d g) (key_place ds gs)
key_place ds gs = None

-- A subscript that its dimension takes: it is an index where it has no variable, and of the sort of each index.
abbrev pub fits : List Value → Form → Bool
fits d g = is_index d g && all_alike (key_sort g) d

-- One such subscript for each dimension.
abbrev pub all_fit : List (List Value) → List Form → Bool
all_fit [] [] = true
all_fit (d ∷ ds) (g ∷ gs) = fits d g && all_fit ds gs
all_fit ds gs = false

-- The place in the text of the first subscript whose magnitude, with those of the indices of its dimension, is too large.
abbrev pub first_large : Context → List (List Value) → List ℕ → List Form → Option ℕ
first_large c (d ∷ ds) (at ∷ ats) (g ∷ gs) = cond (nat_lt (magnitude c (ranked g) + greatest_abs (indices_of d)) (2 ^ 127)) (first_large c ds ats gs) (Some at)
first_large c ds ats gs = None

-- A part in the order of values.
abbrev pub rank : Part → Expr
rank p = ranked (form p)

-- How deep each of these nests, and how many nodes each has.
abbrev pub depths : List Part → List ℕ
depths ps = map (λ p. measures.depth (rank p)) ps

abbrev pub nodes : List Part → List ℕ
nodes ps = map (λ p. measures.nodes (rank p)) ps
