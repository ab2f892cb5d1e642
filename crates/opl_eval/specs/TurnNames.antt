-- The names of what turns chose.
use Rattle.std.specs.Prelude.{ℕ, Bool, List, [], ◌∷◌, bytes_eq, Option, Some, None}
use Rattle.std.specs.List.{list_any}
use Rattle.opl_term.specs.declared.term.Pattern.{Pattern}
use Rattle.opl_term.specs.declared.term.Pattern.TheVariants.{Single, Parts}
use Rattle.opl_eval.specs.declared.turns.Turn.{Turn}

-- the names of a pattern
abbrev pub names_of : Pattern → List (List ℕ)
names_of (Single name) = name ∷ []
names_of (Parts names) = names

-- whether a turn calls its element, or a part of it, by a name
abbrev pub calls : List ℕ → Turn → Bool
calls name t = list_any (bytes_eq name) (names_of t.course.pattern.now)

-- a place that is known, else the first
abbrev pub or_first : Option ℕ → ℕ
or_first None = 0
or_first (Some n) = n
