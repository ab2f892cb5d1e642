-- The places of the names of fields in what a tree writes.
use Rattle.std.specs.Prelude.{ℕ, List, [], ◌∷◌}
use Rattle.opl_tree.specs.Marks.{Marks, any, place, token}

-- the places of the names that stand behind a `.`, in the order in which they are written
abbrev pub field_places : Marks → List ℕ
field_places [] = []
field_places (place at ∷ token (any text) ∷ ms) = at ∷ field_places ms
field_places (m ∷ ms) = field_places ms
