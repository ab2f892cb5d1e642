-- What one look at the parts, and a round over the variables that two of them share, tell.
use Rattle.std.specs.Prelude.{◌≡◌, ℕ, Bool, true, false, List, ℤ, Option, Some, None}
use Rattle.opl_domain.specs.Family.{Family, has, only}
use Rattle.opl_trace.specs.Removals.{DeadValue}
use Rattle.opl_filter.specs.declared.outcome.Outcome.{Outcome}
use Rattle.opl_filter.specs.Mentions.{lists}
use Rattle.opl_filter.specs.Filtering.{IsBetween, Filters}
use Rattle.opl_filter.specs.Rounds.{HasShrunk, IsStuck}

-- the values of variable x were tried, if it is listed
abbrev pub TriesIfListed : (Family → Bool) → List ℕ → Family → Family → ℕ → Option Bool → Type 0
TriesIfListed dead others D F x None = IsStuck dead D F
TriesIfListed dead others D F x (Some false) = (F ≡ D) × (lists others x ≡ true → DeadValue dead D x None)
TriesIfListed dead others D F x (Some true) = HasShrunk dead D F

-- no value of a variable of both lists is dead
abbrev pub NoneDeadInBoth : (Family → Bool) → List ℕ → List ℕ → Family → Type 0
NoneDeadInBoth dead variables others F = (x : ℕ) (v : ℤ) → lists variables x ≡ true → lists others x ≡ true → has F x v ≡ true → dead (only F x v) ≡ false

-- all values of the variables of both lists were tried
abbrev pub TriesShared : (Family → Bool) → List ℕ → List ℕ → Family → Family → Option Bool → Type 0
TriesShared dead variables others D F None = IsStuck dead D F
TriesShared dead variables others D F (Some false) = (F ≡ D) × NoneDeadInBoth dead variables others D
TriesShared dead variables others D F (Some true) = HasShrunk dead D F

-- filtering has ended; or values have gone, each of them dead at that moment
abbrev pub Looks : (Family → Bool) → Family → Family → Option Outcome → Type 0
Looks dead D F None = HasShrunk dead D F
Looks dead D F (Some o) = IsBetween dead D F × Filters dead D F o
