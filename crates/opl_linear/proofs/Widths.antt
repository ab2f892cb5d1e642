-- Products of a factor and the width of a set, which fit, and the roots for the factors 1 and -1.
use Rattle.std.proofs.Common.{◌≡◌, ◌*◌, ◌≤◌, ◌^◌, ℤ, pos, ◌+ℤ◌, neg_ℤ, ◌<ℤ◌, sym, subst, arith}
use Rattle.std.specs.Prelude.{FitsSigned, unsigned_abs, Some}
use mir.Syntax.{w64}
use Rattle.std.proofs.lemmas.Int.{ints}
use Rattle.std.proofs.Math.Nat.{mul-le-mul_left}
use Rattle.opl_expr.specs.Sound.{IsSmall}
use Rattle.opl_range.specs.Between.{IsRoot}

pub width_bound : (lo hi w : ℤ) → FitsSigned w64 lo → FitsSigned w64 hi → w ≡ hi +ℤ neg_ℤ lo → unsigned_abs w ≤ 2 ^ 64
width_bound lo hi w l h e = omega (arith, ints, l.sfits, h.sfits, e)

pub extent_fits : (f w : ℤ) → pos 0 <ℤ f → f <ℤ pos 4611686018427387904 → unsigned_abs w ≤ 2 ^ 64 → IsSmall (unsigned_abs f * unsigned_abs w)
extent_fits f w l m h = omega (arith, ints, l, m, mul-le-mul_left (unsigned_abs f) h)

-- what makes k and its multiple by 1 or by -1 zero
pub root_one : (k c r : ℤ) → c ≡ pos 1 → r ≡ neg_ℤ k → IsRoot k c (Some r)
root_one k c r e f = subst (λ d. IsRoot k d (Some r)) (sym e) (λ v. (λ h. omega (arith, ints, h, f), λ h. omega (arith, ints, h, f)))

pub root_less : (k c r : ℤ) → c ≡ neg_ℤ (pos 1) → r ≡ k → IsRoot k c (Some r)
root_less k c r e f = subst (λ d. IsRoot k d (Some r)) (sym e) (λ v. (λ h. omega (arith, ints, h, f), λ h. omega (arith, ints, h, f)))
