-- Where names stand in a list of names.
use Rattle.std.specs.Prelude.{ℕ, ◌+◌, List, [], ◌∷◌, cond, bytes_eq, Option, Some}

-- the place of the latest of these names that is the given one, where the first of them stands at i; else the place before
abbrev pub latest_place : Option ℕ → ℕ → List ℕ → List (List ℕ) → Option ℕ
latest_place before i name [] = before
latest_place before i name (n ∷ ns) = latest_place (cond (bytes_eq name n) (Some i) before) (i + 1) name ns
