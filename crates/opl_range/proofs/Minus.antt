-- The linear form of a difference, and how large its numbers are.
use Rattle.std.proofs.Common.{◌≡◌, ◌≢◌, true, inl, inr, ℕ, zero, suc, ◌+◌, ◌*◌, ◌≤◌, ◌<◌, List, length, ℤ, pos, ◌+ℤ◌, ◌*ℤ◌, neg_ℤ, ap, sym, ◌∙◌, subst, arith}
use Rattle.std.specs.Prelude.{unsigned_abs, Some}
use Rattle.std.proofs.Math.Nat.{mul-le-mul_left}
use Rattle.std.proofs.lemmas.Int.{ints, unsigned_abs-mul}
use Rattle.opl_domain.specs.Span.{Span, magnitude}
use Rattle.opl_domain.specs.Arithmetic.{span_add, span_neg}
use Rattle.opl_domain.specs.Family.{Family, has, hull, Below}
use Rattle.opl_expr.specs.declared.model.Core.{Core}
use Rattle.opl_expr.specs.declared.forms.Expr.{Expr}
use Rattle.opl_expr.specs.Options.{lift1}
use Rattle.opl_expr.specs.Range.{weighted, with_variables, coef, rest}
use Rattle.opl_expr.specs.Solutions.{declared}
use Rattle.opl_expr.specs.Sound.{IsSmall, var_magnitude, term_magnitude}
use Rattle.opl_expr.proofs.Bounds.{lift1_parts, lift_parts}
use Rattle.opl_range.specs.Magnitudes.{weight}
use Rattle.opl_range.specs.Between.{term_of, between, rest_between, CanCompare}
use Rattle.opl_range.proofs.Bounds.{add_bound, neg_bound}
use Rattle.opl_range.proofs.Weights.{has_declared, hulls_small, weight_minus, coef_weight, weighted_bound, rest_bound}
use Rattle.opl_range.proofs.Parts.{coef_small}
use Rattle.opl_range.proofs.Roots.{last_or_before, positive_abs}

pub minus_small : (core : Core) (a b : Expr) (x : ℕ) (u v : ℤ) → CanCompare core a b → u ≡ coef (term_of core a) x → v ≡ coef (term_of core b) x → IsSmall (unsigned_abs u + unsigned_abs v)
minus_small core a b x u v s i j =
    omega (arith, s.0, ap unsigned_abs i, ap unsigned_abs j, coef_small core.sets (term_of core a) x, coef_small core.sets (term_of core b) x)

pub minus_is : (core : Core) (a b : Expr) (x : ℕ) (u v r : ℤ) → r ≡ u +ℤ neg_ℤ v → u ≡ coef (term_of core a) x → v ≡ coef (term_of core b) x → r ≡ between core a b x
unfolding between
minus_is core a b x u v r e i j = e ∙ ap (λ z. z +ℤ neg_ℤ v) i ∙ ap (λ z. coef (term_of core a) x +ℤ neg_ℤ z) j

pub between_weight : (core : Core) (a b : Expr) (n : ℕ) → weight core.sets (between core a b) n ≤ term_magnitude core.sets (term_of core a) + term_magnitude core.sets (term_of core b)
unfolding between
between_weight core a b n = omega (arith, weight_minus core.sets (coef (term_of core a)) (coef (term_of core b)) n, coef_weight core.sets (term_of core a) n, coef_weight core.sets (term_of core b) n)

hull_part : (core : Core) (F : Family) (c : ℕ → ℤ) (n : ℕ) → Below F (declared core) → unsigned_abs (c n) * magnitude (hull F n) ≤ unsigned_abs (c n) * var_magnitude core.sets n
hull_part core F c n b = mul-le-mul_left (unsigned_abs (c n)) (hulls_small core F b n)

pub scaled_fits : (core : Core) (F : Family) (a b : Expr) (n : ℕ) (k : ℤ) (h : Span) → Below F (declared core) → CanCompare core a b → k ≡ between core a b n → h ≡ hull F n → IsSmall (unsigned_abs k * magnitude h)
scaled_fits core F a b n k h w s i j =
    rw (i, j) (omega (arith, s.0, hull_part core F (between core a b) n w, between_weight core a b (suc n)))

-- what a minus b has beside its variables is small together with them
pub rest_fits : (core : Core) (F : Family) (a b : Expr) (r : Span) → Below F (declared core) → CanCompare core a b → Some r ≡ rest_between F core a b → IsSmall (weight core.sets (between core a b) (length F) + magnitude r)
unfolding between
rest_fits core F a b r w s e =
    let h = hulls_small core F w in
    let p = lift_parts span_add (rest F (term_of core a)) (lift1 span_neg (rest F (term_of core b))) r (sym e) in
    let q = lift1_parts span_neg (rest F (term_of core b)) p.1 p.3 in
    let first = rest_bound core.sets F h (term_of core a) p.0 p.2 in
    let second = rest_bound core.sets F h (term_of core b) q.0 q.1 in
    let neg = subst (λ z. magnitude z ≤ magnitude q.0) (sym q.2) (neg_bound q.0) in
    let whole = subst (λ z. magnitude z ≤ magnitude p.0 + magnitude p.1) (sym p.4) (add_bound p.0 p.1) in
    omega (arith, s.0, first, second, neg, whole, weight_minus core.sets (coef (term_of core a)) (coef (term_of core b)) (length F))

pub whole_fits : (core : Core) (F : Family) (a b : Expr) (r u : Span) → Below F (declared core) → CanCompare core a b → Some r ≡ rest_between F core a b → u ≡ weighted F (between core a b) (length F)
    → magnitude r + magnitude u < 170141183460469231731687303715884105728
whole_fits core F a b r u w s e f =
    let p = subst (λ z. magnitude z ≤ weight core.sets (between core a b) (length F)) (sym f) (weighted_bound core.sets F (hulls_small core F w) (between core a b) (length F)) in
    omega (arith, rest_fits core F a b r w s e, p)

pub whole_is : (F : Family) (c : ℕ → ℤ) (n : ℕ) (r u d : Span) → d ≡ span_add r u → u ≡ weighted F c n → d ≡ with_variables F c n r
unfolding with_variables
whole_is F c n r u d e f = e ∙ ap (span_add r) f

-- ---- values of variables

weight_covers : (sets : List (ℤ × ℤ)) (c : ℕ → ℤ) (n x : ℕ) → x < n → unsigned_abs (c x) * var_magnitude sets x ≤ weight sets c n
weight_covers sets c zero x h = absurd (omega (arith, h))
weight_covers sets c (suc n) x h = elim (last_or_before x n h) [
  | inl e ↦ subst (λ y. unsigned_abs (c y) * var_magnitude sets y ≤ weight sets c (suc n)) (sym e) (omega arith)
  | inr p ↦ omega (arith, weight_covers sets c n x p)
]

value_fits : (core : Core) (F : Family) (c : ℕ → ℤ) (x : ℕ) (k v : ℤ) → Below F (declared core) → x < length F → has F x v ≡ true → IsSmall (weight core.sets c (length F) + unsigned_abs k) → IsSmall (unsigned_abs k + unsigned_abs (c x *ℤ v))
value_fits core F c x k v w h m s =
    let p = mul-le-mul_left (unsigned_abs (c x)) (has_declared core x v (w.sub x v m)) in
    omega (arith, s, p, unsigned_abs-mul (c x) v, weight_covers core.sets c (length F) x h)

as_much : (m n : ℕ) → 0 < m → n ≤ m * n
as_much zero n h = absurd (omega (arith, h))
as_much (suc m) n h = omega arith

pub bare_fits : (core : Core) (F : Family) (c : ℕ → ℤ) (x : ℕ) (k v : ℤ) → Below F (declared core) → x < length F → c x ≢ pos 0 → has F x v ≡ true → IsSmall (weight core.sets c (length F) + unsigned_abs k) → IsSmall (unsigned_abs v + unsigned_abs k)
bare_fits core F c x k v w h n m s =
    omega (arith, value_fits core F c x k v w h m s, unsigned_abs-mul (c x) v, as_much (unsigned_abs (c x)) (unsigned_abs v) (positive_abs (c x) n))

pub part_fits : (m : ℕ) (k : ℤ) → IsSmall (m + unsigned_abs k) → IsSmall (unsigned_abs k)
part_fits m k s = omega (arith, s)
