-- What a visitor becomes when marks are told to it.
use Rattle.std.specs.Prelude.{◌≡◌, ℕ, ◌+◌, min, Bool, true, false, List, [], ◌∷◌}
use Rattle.opl_token.specs.declared.sign.Sign.{Sign}
use Rattle.opl_tree.specs.Marks.{Part, place, token, unbraced, opens, Marks, behind, several}

-- the number of a level, or the greatest one of 32 bits where it is more
unfoldable pub capped : ℕ → ℕ
capped n = min n 4294967295

-- what a visitor becomes when marks are told to it, under so many open levels: each token, and each level that a token opens
abbrev pub told : {V : Type 0} → (Part → V → V) → (ℕ → V → V) → ℕ → Marks → V → V
told on_token on_level level [] v = v
told on_token on_level level (place at ∷ ms) v = told on_token on_level level ms v
told on_token on_level level (token p ∷ ms) v = told on_token on_level level ms (on_token p v)
told on_token on_level level (unbraced ∷ ms) v = told on_token on_level level ms v
told on_token on_level level (opens k ∷ ms) v = told on_token on_level level ms (on_level (capped (level + k)) v)

-- what is left of a list with signs between, before its first part and behind it
abbrev pub listed : Bool → Sign → List Marks → Marks
listed true s ms = several s ms
listed false s ms = behind s ms

-- if a visitor is whole now, it was before, and has become what f makes of it
abbrev pub Follows : {V : Type 0} → (V → Bool) → V → (V → V) → V → Type 0
Follows is_whole old f new = is_whole new ≡ true → (is_whole old ≡ true) × (new ≡ f old)
