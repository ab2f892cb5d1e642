-- Families that agree on some variables.
use Rattle.std.specs.Prelude.{◌≡◌, ◌≢◌, ℕ, Bool, true, length}
use Rattle.opl_domain.specs.Family.{Family, set_of, Full}

-- no set is empty, and the sets of all variables but x are the same
pub record DifferAt (x : ℕ) (F G : Family) : Type 0 where
  pub same : length F ≡ length G
  pub first : Full F
  pub second : Full G
  pub others : (y : ℕ) → y ≢ x → set_of F y ≡ set_of G y

-- no set is empty, and the sets of all variables that pass are the same
pub record AgreeOn (passes : ℕ → Bool) (F G : Family) : Type 0 where
  pub same : length F ≡ length G
  pub first : Full F
  pub second : Full G
  pub sets : (y : ℕ) → passes y ≡ true → set_of F y ≡ set_of G y
