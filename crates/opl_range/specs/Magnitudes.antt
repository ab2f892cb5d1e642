-- That no range leaves the magnitude of its expression.
use Rattle.std.specs.Prelude.{◌≡◌, ℕ, zero, suc, ◌+◌, ◌*◌, ◌≤◌, List, length, ℤ, pos, ◌≤ℤ◌, unsigned_abs, Some}
use Rattle.opl_domain.specs.Span.{Span, magnitude}
use Rattle.opl_domain.specs.Family.{Family, Below}
use Rattle.opl_expr.specs.declared.model.Core.{Core}
use Rattle.opl_expr.specs.Forms.{Term, Fact}
use Rattle.opl_expr.specs.Range.{coef, rest, range, fact_range}
use Rattle.opl_expr.specs.Solutions.{declared}
use Rattle.opl_expr.specs.Sound.{var_magnitude, term_magnitude}

-- the sum, over the first n variables, of the absolute value of the coefficient times the variable's magnitude
abbrev pub weight : List (ℤ × ℤ) → (ℕ → ℤ) → ℕ → ℕ
weight sets c zero = 0
weight sets c (suc n) = weight sets c n + unsigned_abs (c n) * var_magnitude sets n

-- a truth as an interval: both ends are 0 or 1
pub record IsTruth (r : Span) : Type 0 where
  pub low_least : pos 0 ≤ℤ r.low
  pub low_most : r.low ≤ℤ pos 1
  pub high_least : pos 0 ≤ℤ r.high
  pub high_most : r.high ≤ℤ pos 1

-- the coefficients, each by its variable's magnitude, together with the constant and the other parts are within the magnitude
-- of the expression, and so is its range; the range of a constraint is a truth
pub record RangesAreSmall : Type 0 where
  pub coefs : (core : Core) (t : Term) (n : ℕ) → weight core.sets (coef t) n ≤ term_magnitude core.sets t
  pub rests : (core : Core) (F : Family) (t : Term) (r : Span) → Below F (declared core) → rest F t ≡ Some r → weight core.sets (coef t) (length F) + magnitude r ≤ term_magnitude core.sets t
  pub ranges : (core : Core) (F : Family) (t : Term) (r : Span) → Below F (declared core) → range F t ≡ Some r → magnitude r ≤ term_magnitude core.sets t
  pub facts : (F : Family) (c : Fact) (r : Span) → fact_range F c ≡ Some r → IsTruth r
