-- Tokens, and where they stand.
use Rattle.std.specs.Prelude.{ℕ, List, [], ◌∷◌, map}
use Rattle.opl_token.specs.declared.token.Kind.{Kind}
use Rattle.opl_token.specs.declared.token.Token.{Token}

-- what the tokens are, without their places
abbrev pub kinds : List Token → List Kind
kinds = map (λ t. t.kind)

-- the place of the next token, or the text's end where none is left
abbrev pub place_of : List Token → ℕ → ℕ
place_of [] end = end
place_of (t ∷ ts) end = t.at
