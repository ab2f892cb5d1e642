-- Places in terms.
use Rattle.std.specs.Prelude.{ℕ, Option, Some, None}
use Rattle.opl_term.specs.declared.term.Term.{Term}
use Rattle.opl_meaning.specs.Runs.{no_names, use_of}

-- the place of a term's first token
unfoldable pub place_of : Term → ℕ
place_of t = (use_of no_names t).at

-- the first of two places
abbrev pub or_else : Option ℕ → Option ℕ → Option ℕ
or_else None other = other
or_else (Some at) other = Some at
