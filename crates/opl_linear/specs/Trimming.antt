-- What cutting one tail of a set does.
use Rattle.std.specs.Prelude.{◌≡◌, ℕ, Bool, true, false, ℤ, pos, ◌+ℤ◌, ◌*ℤ◌, neg_ℤ, ◌≤ℤ◌, ◌<ℤ◌, Option, Some, None, List, ◌<◌, length, slice_index_or}
use Rattle.opl_domain.specs.Family.{Family, hull, has, is_outside, cut_of}
use Rattle.opl_filter.specs.Filtering.{IsLeftOf}
use Rattle.opl_linear.specs.Linear.{factor_in, least_product, least_sum, is_above, limit}

-- how much a form may exceed its least value l, if it is to be at most 0, or below 0; none where l is too great
abbrev pub IsSlack : ℤ → Bool → Option ℤ → Type 0
IsSlack l strict None = pos 0 <ℤ limit strict l
IsSlack l strict (Some s) = (s ≡ neg_ℤ (limit strict l)) × (pos 0 ≤ℤ s)

-- from one end of a set the factor can go q steps within the slack, and not one more, and the other end is further
pub record IsReach (factor slack lo hi q : ℤ) : Type 0 where
  pub least : pos 0 ≤ℤ q
  pub most : (lo +ℤ q) <ℤ hi
  pub near : (factor *ℤ q) ≤ℤ slack
  pub far : slack <ℤ (factor *ℤ (q +ℤ pos 1))

-- how many steps; none where the whole set is within the slack
abbrev pub Reaches : ℤ → ℤ → ℤ → ℤ → Option ℤ → Type 0
Reaches factor slack lo hi None = (factor *ℤ (hi +ℤ neg_ℤ lo)) ≤ℤ slack
Reaches factor slack lo hi (Some q) = IsReach factor slack lo hi q

-- no value of x makes the product greater than its least value by more than the slack
abbrev pub AreNear : Family → ℕ → ℤ → ℤ → Type 0
AreNear F x a slack = (v : ℤ) → has F x v ≡ true → (a *ℤ v) ≤ℤ (least_product a (hull F x) +ℤ slack)

-- a run of values has gone: all those that make the product too great
pub record HasLostRun (F G : Family) (x : ℕ) (a slack : ℤ) : Type 0 where
  pub lo : ℤ
  pub hi : ℤ
  pub cut : G ≡ cut_of F x lo hi
  pub far : (v : ℤ) → has F x v ≡ true → is_outside lo hi v ≡ false → (least_product a (hull F x) +ℤ slack) <ℤ (a *ℤ v)
  pub stays : (w : ℤ) × (has G x w ≡ true)
  pub gone : ℤ
  pub had : has F x gone ≡ true
  pub within : is_outside lo hi gone ≡ false
  pub low : least_product a (hull G x) ≡ least_product a (hull F x)
  pub near : AreNear G x a slack

abbrev pub Trims : Family → Family → ℕ → ℤ → ℤ → Bool → Type 0
Trims F G x a slack false = (G ≡ F) × AreNear F x a slack
Trims F G x a slack true = HasLostRun F G x a slack

-- the constant with which the least value of the form over a family is the opposite of the slack
abbrev pub constant_for : Family → List (ℕ × ℤ) → ℤ → ℤ
constant_for D ps slack = neg_ℤ slack +ℤ neg_ℤ (least_sum D ps)

-- the first n of the listed variables have been trimmed
pub record IsTrimmedTo (D F : Family) (ps : List (ℕ × ℤ)) (slack : ℤ) (n : ℕ) : Type 0 where
  pub removals : IsLeftOf (is_above (factor_in ps) (constant_for D ps slack)) D F
  pub same : length F ≡ length D
  pub lows : (x : ℕ) → least_product (factor_in ps x) (hull F x) ≡ least_product (factor_in ps x) (hull D x)
  pub near : (j : ℕ) → j < n → j < length ps → AreNear F (slice_index_or ps j (0, pos 0)).0 (slice_index_or ps j (0, pos 0)).1 slack
