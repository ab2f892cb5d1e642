-- Linear forms as lists of variables with their factors.
use Rattle.std.specs.Prelude.{◌≡◌, ◌≢◌, ℕ, ◌+◌, ◌*◌, ◌<◌, Bool, true, false, cond, ◌||◌, List, [], ◌∷◌, length, ℤ, pos, ◌+ℤ◌, neg_ℤ, unsigned_abs, int_lt, nat_eq}
use Rattle.opl_domain.specs.Span.{Span, magnitude, point, is_point}
use Rattle.opl_domain.specs.Family.{Family, hull}
use Rattle.opl_expr.specs.Sound.{IsSmall}
use Rattle.opl_expr.specs.Range.{span_scale, weighted, with_variables}

-- the factor of variable x in a list
abbrev pub factor_in : List (ℕ × ℤ) → ℕ → ℤ
factor_in [] x = pos 0
factor_in (p ∷ ps) x = cond (nat_eq x p.0) p.1 (pos 0) +ℤ factor_in ps x

-- x is one of the variables of the list
abbrev pub names : List (ℕ × ℤ) → ℕ → Bool
names [] x = false
names (p ∷ ps) x = nat_eq x p.0 || names ps x

-- no variable stands twice
abbrev pub NamesOnce : List (ℕ × ℤ) → Type 0
NamesOnce [] = Unit {0}
NamesOnce (p ∷ ps) = (names ps p.0 ≡ false) × NamesOnce ps

-- all variables are among the first n
abbrev pub AreAmong : ℕ → List (ℕ × ℤ) → Type 0
AreAmong n [] = Unit {0}
AreAmong n (p ∷ ps) = (p.0 < n) × AreAmong n ps

-- the least value of a factor times a number of an interval
unfoldable pub least_product : ℤ → Span → ℤ
least_product k a = (span_scale k a).low

-- the sum, over the list, of the least value of each factor times its variable
abbrev pub least_sum : Family → List (ℕ × ℤ) → ℤ
least_sum F [] = pos 0
least_sum F (p ∷ ps) = least_product p.1 (hull F p.0) +ℤ least_sum F ps

-- the same over the first n variables
unfoldable pub least_weighted : Family → (ℕ → ℤ) → ℕ → ℤ
least_weighted F c n = (weighted F c n).low

-- the family leaves the form above 0
unfoldable pub is_above : (ℕ → ℤ) → ℤ → Family → Bool
is_above c k F = int_lt (pos 0) (k +ℤ least_weighted F c (length F))

-- one more where the form is to be below 0, and not at most 0
abbrev pub limit : Bool → ℤ → ℤ
limit false k = k
limit true k = k +ℤ pos 1

-- the family leaves the form 0 alone
unfoldable pub is_zero : (ℕ → ℤ) → ℤ → Family → Bool
is_zero c k F = is_point (pos 0) (with_variables F c (length F) (point k))

-- the list with the opposite factors
abbrev pub opposite : List (ℕ × ℤ) → List (ℕ × ℤ)
opposite [] = []
opposite (p ∷ ps) = (p.0, neg_ℤ p.1) ∷ opposite ps

-- no value of the sum is greater in absolute value
abbrev pub bulk : Family → List (ℕ × ℤ) → ℕ
bulk F [] = 0
bulk F (p ∷ ps) = unsigned_abs p.1 * magnitude (hull F p.0) + bulk F ps

-- no factor is 0, and each can be negated
abbrev pub AreFactors : List (ℕ × ℤ) → Type 0
AreFactors [] = Unit {0}
AreFactors (p ∷ ps) = (p.1 ≢ pos 0) × IsSmall (unsigned_abs p.1) × AreFactors ps
