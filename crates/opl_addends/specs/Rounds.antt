-- What is known once the values of a variable were tried.
use Rattle.std.specs.Prelude.{◌≡◌, ◌≢◌, ℕ, Bool, true, false, List, ℤ, ◌≤ℤ◌, Option, Some, None}
use Rattle.opl_domain.specs.Span.{Span, magnitude}
use Rattle.opl_domain.specs.Arithmetic.{span_add}
use Rattle.opl_domain.specs.Family.{Family, set_of, has, only}
use Rattle.opl_expr.specs.Forms.{Term}
use Rattle.opl_expr.specs.Sound.{IsSmall}
use Rattle.opl_trace.specs.Stable.{HasFailed}
use Rattle.opl_trace.specs.Removals.{DeadValue}
use Rattle.opl_filter.specs.Filtering.{IsLeftOf}
use Rattle.opl_filter.specs.Rounds.{NoneDead, HasShrunk}
use Rattle.opl_addends.specs.Addends.{total}

-- a test can take each family in which x has one of its values alone
abbrev pub CanTry : (Family → Type 0) → Family → ℕ → Type 0
CanTry can F x = (v : ℤ) → has F x v ≡ true → can (only F x v)

-- all other sets are the same
abbrev pub SameBut : ℕ → Family → Family → Type 0
SameBut x F G = (y : ℕ) → y ≢ x → set_of F y ≡ set_of G y

-- values have gone, each of them dead at that moment, and no family within is stable
abbrev pub HasEnded : (Family → Bool) → Family → Family → Type 0
HasEnded dead D F = IsLeftOf dead D F × HasFailed dead D

-- all values of variable x were tried
abbrev pub TriesVariable : (Family → Bool) → Family → Family → ℕ → Option Bool → Type 0
TriesVariable dead D F x None = HasEnded dead D F
TriesVariable dead D F x (Some false) = (F ≡ D) × DeadValue dead D x None
TriesVariable dead D F x (Some true) = HasShrunk dead D F

-- all values of the listed variables were tried
abbrev pub TriesEach : (Family → Bool) → List ℕ → Family → Family → Option Bool → Type 0
TriesEach dead variables D F None = HasEnded dead D F
TriesEach dead variables D F (Some false) = (F ≡ D) × NoneDead dead variables D
TriesEach dead variables D F (Some true) = HasShrunk dead D F

-- what is kept is the sum of the ranges of the addends, unless filtering has ended
abbrev pub Keeps : Family → List (Bool × Term) → Span → Option Bool → Type 0
Keeps F ss kept None = Unit {0}
Keeps F ss kept (Some removed) = total F ss ≡ Some kept

-- an interval is the sum of a small one and of a part
pub record IsLess (whole part : Span) : Type 0 where
  pub rest : Span
  pub is : whole ≡ span_add rest part
  pub ordered : rest.low ≤ℤ rest.high
  pub small : IsSmall (magnitude rest)
