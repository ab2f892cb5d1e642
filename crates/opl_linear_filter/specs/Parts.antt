-- The parts of a linear form: its variables with their factors.
use Rattle.std.specs.Prelude.{◌≡◌, ℕ, ◌+◌, ◌*◌, ◌<◌, Bool, true, false, List, [], ◌∷◌, ℤ, unsigned_abs}
use Rattle.opl_expr.specs.Sound.{var_magnitude}
use Rattle.opl_range.specs.Between.{are_opposite_units}
use Rattle.opl_linear.specs.Linear.{factor_in, names, NamesOnce, AreAmong, AreFactors, opposite}

-- no value of the parts together, over declared sets, is greater in absolute value
abbrev pub weight_of : List (ℤ × ℤ) → List (ℕ × ℤ) → ℕ
weight_of sets [] = 0
weight_of sets (p ∷ ps) = unsigned_abs p.1 * var_magnitude sets p.0 + weight_of sets ps

-- the later a part, the lesser its variable
abbrev pub AreFalling : List (ℕ × ℤ) → Type 0
AreFalling [] = Unit {0}
AreFalling (p ∷ ps) = ((x : ℕ) → names ps x ≡ true → x < p.0) × AreFalling ps

-- the list has each of the first n variables whose factor isn't 0, once, with that factor
pub record ArePartsOf (c : ℕ → ℤ) (n : ℕ) (ps : List (ℕ × ℤ)) : Type 0 where
  pub once : NamesOnce ps
  pub falling : AreFalling ps
  pub among : AreAmong n ps
  pub factors : AreFactors ps
  pub same : (x : ℕ) → x < n → factor_in ps x ≡ c x

-- two lists are the parts, and the same with the opposite factors
abbrev pub ArePartsBoth : (ℕ → ℤ) → ℕ → List (ℕ × ℤ) × List (ℕ × ℤ) → Type 0
ArePartsBoth c n both = ArePartsOf c n both.0 × (both.1 ≡ opposite both.0)

-- the list has one part, or two with the factors 1 and -1
abbrev pub is_short : List (ℕ × ℤ) → Bool
is_short [] = false
is_short (p ∷ []) = true
is_short (p ∷ q ∷ []) = are_opposite_units p.1 q.1
is_short (p ∷ q ∷ r ∷ ps) = false
