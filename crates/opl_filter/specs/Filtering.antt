-- What filtering does: it removes values that are dead, one after another, until the family is stable.
use Rattle.std.specs.Prelude.{◌≡◌, ℕ, Bool, true, List, [], ◌∷◌, ℤ}
use Rattle.opl_domain.specs.Family.{Family, IsFamily, has, cut_of, Below}
use Rattle.opl_expr.specs.Forms.{Fact}
use Rattle.opl_expr.specs.Range.{is_refuted}
use Rattle.opl_trace.specs.Stable.{IsGreatestStable, HasFailed}
use Rattle.opl_trace.specs.Removals.{IsDeadValue}
use Rattle.opl_filter.specs.declared.outcome.Outcome.{Outcome}
use Rattle.opl_filter.specs.declared.outcome.Outcome.TheVariants as outcome

-- the family refutes the constraint
abbrev pub refutes : Fact → Family → Bool
refutes c F = is_refuted F c

-- the value v of variable x can go: it is dead, and another value of x stays
pub record CanGo (dead : Family → Bool) (F : Family) (x : ℕ) (v : ℤ) : Type 0 where
  pub dead_value : IsDeadValue dead F x v
  pub stays : (w : ℤ) × (has (cut_of F x v v) x w ≡ true)

-- the family without some values of variables, removed one after another
abbrev pub without : Family → List (ℕ × ℤ) → Family
without F [] = F
without F (p ∷ others) = without (cut_of F p.0 p.1 p.1) others

-- each of these values can go at its turn
abbrev pub EachCanGo : (Family → Bool) → Family → List (ℕ × ℤ) → Type 0
EachCanGo dead F [] = Unit {0}
EachCanGo dead F (p ∷ others) = CanGo dead F p.0 p.1 × EachCanGo dead (cut_of F p.0 p.1 p.1) others

-- F is what is left of D once some values have gone, each of them dead in the family of that moment
pub record IsLeftOf (dead : Family → Bool) (D F : Family) : Type 0 where
  pub gone : List (ℕ × ℤ)
  pub each : EachCanGo dead D gone
  pub left : F ≡ without D gone

-- so it is; F lies within D, and none of its sets is empty
pub record IsBetween (dead : Family → Bool) (D F : Family) : Type 0 where
  pub removals : IsLeftOf dead D F
  pub below : Below F D
  pub sets : IsFamily F

-- what is known of the family D before and the family F afterwards: F is the greatest stable family within D, or there is none
abbrev pub Filters : (Family → Bool) → Family → Family → Outcome → Type 0
Filters dead D F outcome.Stable = IsGreatestStable dead D F
Filters dead D F outcome.Failed = HasFailed dead D
