-- The places of names in a list.
use Rattle.std.specs.Prelude.{ℕ, ◌+◌, List, [], ◌∷◌, cond, bytes_eq, Option, Some, None}

-- a name, as its bytes
abbrev pub Text : Type 0
Text = List ℕ

-- the place of the latest such name of a list whose first name has the place i; else the place before
abbrev pub latest : Option ℕ → ℕ → Text → List Text → Option ℕ
latest before i name [] = before
latest before i name (n ∷ ns) = latest (cond (bytes_eq name n) (Some i) before) (i + 1) name ns

-- the place of the latest such name of a list
abbrev pub position : Text → List Text → Option ℕ
position name ns = latest None 0 name ns
