-- The factors of variables in a map, as they are added up.
use Rattle.std.specs.Prelude.{◌≡◌, ℕ, ◌+◌, ◌*◌, ◌<◌, ◌≤◌, ℤ, pos, ◌+ℤ◌, ◌*ℤ◌, unsigned_abs, unwrap_or, IsSome}
use Rattle.std.specs.Ordering.{nat_cmp}
use Rattle.std.specs.BTreeMap.{BTreeMap, get}
use Rattle.opl_expr.specs.Sound.{IsSmall}

-- the factor of a variable, 0 where the map has none
abbrev pub factor_at : BTreeMap ℕ ℤ → ℕ → ℤ
factor_at m x = unwrap_or (get nat_cmp m x) (pos 0)

-- each variable of the map is one of the first n
abbrev pub AreBelow : ℕ → BTreeMap ℕ ℤ → Type 0
AreBelow n m = (x : ℕ) → IsSome (get nat_cmp m x) → x < n

-- each factor stays small where so many times an expression of that magnitude is added
abbrev pub CanAdd : BTreeMap ℕ ℤ → ℤ → ℕ → Type 0
CanAdd m times magnitude = (x : ℕ) → IsSmall (unsigned_abs (factor_at m x) + unsigned_abs times * magnitude)

-- so many times these coefficients were added
abbrev pub Adds : BTreeMap ℕ ℤ → ℤ → (ℕ → ℤ) → BTreeMap ℕ ℤ → Type 0
Adds old times c new = (x : ℕ) → factor_at new x ≡ factor_at old x +ℤ (times *ℤ c x)

-- r is the product where that is small, and else no further from 0
pub record IsMultiple (s t r : ℤ) : Type 0 where
  pub near : unsigned_abs r ≤ unsigned_abs s * unsigned_abs t
  pub same : IsSmall (unsigned_abs s * unsigned_abs t) → r ≡ s *ℤ t
