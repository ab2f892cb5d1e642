-- Values that must go, as a program finds them.
use Rattle.std.specs.Prelude.{◌≡◌, ℕ, ◌<◌, Bool, true, false, length, ℤ, Option, Some, None}
use Rattle.opl_domain.specs.Family.{Family, has, only, Below}
use Rattle.opl_trace.specs.Stable.{IsStable}
use Rattle.opl_trace.specs.Closure.{restrict}

-- each family below D is one that a test can take
abbrev pub CanNarrow : (Family → Type 0) → Family → Type 0
CanNarrow can D = (F : Family) → Below F D → can F

-- the value v of variable x is dead: the family is dead once x has it alone
pub record IsDeadValue (dead : Family → Bool) (F : Family) (x : ℕ) (v : ℤ) : Type 0 where
  pub variable : x < length F
  pub value : has F x v ≡ true
  pub is_dead : dead (only F x v) ≡ true

-- a dead value of variable x, or none where there is none
abbrev pub DeadValue : (Family → Bool) → Family → ℕ → Option ℤ → Type 0
DeadValue dead F x None = (v : ℤ) → has F x v ≡ true → dead (only F x v) ≡ false
DeadValue dead F x (Some v) = IsDeadValue dead F x v

-- a dead value of some variable, or none where there is none
abbrev pub DeadPair : (Family → Bool) → Family → Option (ℕ × ℤ) → Type 0
DeadPair dead F None = (x : ℕ) (v : ℤ) → x < length F → has F x v ≡ true → dead (only F x v) ≡ false
DeadPair dead F (Some p) = IsDeadValue dead F p.0 p.1

-- what has been kept of D: some of its values, and all that a stable family has
pub record Kept (dead : Family → Bool) (D F : Family) : Type 0 where
  pub keeps : ℕ → ℤ → Bool
  pub is_kept : F ≡ restrict keeps D
  pub above : (G : Family) → IsStable dead G → Below G D → Below G F
