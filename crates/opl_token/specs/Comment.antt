-- The comments of the language: `//` to the end of its line, and `/*` to the next `*/`.
use Rattle.std.specs.Prelude.{◌≡◌, ◌⊎◌, ℕ, Bool, false, not, ◌==◌, List, [], ◌++◌, codes}
use Rattle.std.specs.List.{AllPass}
use Rattle.opl_token.specs.Lexeme.{begins}

-- any byte but a line feed
abbrev pub is_in_line : ℕ → Bool
is_in_line b = not (b == 10)

-- `//`, and what follows up to the next line feed or to the end
pub record IsLineComment (text rest : List ℕ) : Type 0 where
  pub inner : List ℕ
  pub spelt : text ≡ codes "//" ++ inner
  pub line : AllPass is_in_line inner
  pub ends : begins is_in_line rest ≡ false

-- bytes that end with `*/`, and have it nowhere before
pub record EndsBlock (text : List ℕ) : Type 0 where
  pub inner : List ℕ
  pub spelt : text ≡ inner ++ codes "*/"
  pub next : (front back : List ℕ) → front ++ (codes "*/" ++ back) ≡ text → back ≡ []

-- `/*`, and what follows up to the next `*/`
pub record IsBlockComment (text : List ℕ) : Type 0 where
  pub inner : List ℕ
  pub spelt : text ≡ codes "/*" ++ inner
  pub ends : EndsBlock inner

-- a comment where `rest` stands behind it
abbrev pub IsComment : (text rest : List ℕ) → Type 0
IsComment text rest = IsLineComment text rest ⊎ IsBlockComment text
