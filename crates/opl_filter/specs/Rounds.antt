-- What the parts of a round tell.
use Rattle.std.specs.Prelude.{◌≡◌, ℕ, ◌<◌, Bool, true, false, List, length, ℤ, Option, Some, None}
use Rattle.opl_domain.specs.Family.{Family, set_of, has, only, cut_of, Full}
use Rattle.opl_trace.specs.Removals.{IsDeadValue, DeadValue}
use Rattle.opl_trace.specs.Sweeps.{size}
use Rattle.opl_filter.specs.Mentions.{lists}
use Rattle.opl_filter.specs.Filtering.{CanGo, IsLeftOf}

-- each variable of the list is one of the family's
abbrev pub AreThere : List ℕ → Family → Type 0
AreThere variables F = (x : ℕ) → lists variables x ≡ true → x < length F

-- a test looks at no set but those of the listed variables
abbrev pub LooksOnlyAt : List ℕ → (Family → Bool) → Type 0
LooksOnlyAt variables dead = (F : Family) (x : ℕ) (v : ℤ) → Full F → lists variables x ≡ false → dead (only F x v) ≡ dead F

-- no value of a listed variable is dead
abbrev pub NoneDead : (Family → Bool) → List ℕ → Family → Type 0
NoneDead dead variables F = (x : ℕ) (v : ℤ) → lists variables x ≡ true → has F x v ≡ true → dead (only F x v) ≡ false

-- the value v of variable x is dead, and its last one
pub record IsLastValue (dead : Family → Bool) (F : Family) (x : ℕ) (v : ℤ) : Type 0 where
  pub dead_value : IsDeadValue dead F x v
  pub last : length (set_of F x) ≡ 1

-- some values have gone, each of them dead at that moment
pub record HasShrunk (dead : Family → Bool) (D F : Family) : Type 0 where
  pub removals : IsLeftOf dead D F
  pub smaller : size F < size D

-- and now a variable has only one value, which is dead
pub record IsStuck (dead : Family → Bool) (D F : Family) : Type 0 where
  pub removals : IsLeftOf dead D F
  pub variable : ℕ
  pub value : ℤ
  pub last_value : IsLastValue dead F variable value

-- the value v of variable x was tried: D is the family before, F the family afterwards
abbrev pub TriesValue : (Family → Bool) → Family → Family → ℕ → ℤ → Option Bool → Type 0
TriesValue dead D F x v None = (F ≡ D) × IsLastValue dead D x v
TriesValue dead D F x v (Some false) = (F ≡ D) × (dead (only D x v) ≡ false)
TriesValue dead D F x v (Some true) = (F ≡ cut_of D x v v) × CanGo dead D x v

-- all values of variable x were tried
abbrev pub TriesValues : (Family → Bool) → Family → Family → ℕ → Option Bool → Type 0
TriesValues dead D F x None = IsStuck dead D F
TriesValues dead D F x (Some false) = (F ≡ D) × DeadValue dead D x None
TriesValues dead D F x (Some true) = HasShrunk dead D F

-- all values of the listed variables were tried
abbrev pub TriesAll : (Family → Bool) → List ℕ → Family → Family → Option Bool → Type 0
TriesAll dead variables D F None = IsStuck dead D F
TriesAll dead variables D F (Some false) = (F ≡ D) × NoneDead dead variables D
TriesAll dead variables D F (Some true) = HasShrunk dead D F
