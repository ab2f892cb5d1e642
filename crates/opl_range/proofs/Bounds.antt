-- How large the ends of an interval are that is made of others.
use Rattle.std.proofs.Common.{◌≡◌, ℕ, suc, ◌+◌, ◌*◌, ◌≤◌, ◌<◌, max, true, false, cond, refl, List, [], ◌∷◌, ℤ, pos, negsuc, ◌+ℤ◌, ◌*ℤ◌, neg_ℤ, ◌≤ℤ◌, ap, arith, inl, inr}
use Rattle.std.specs.Prelude.{int_le, int_div, int_rem, unsigned_abs, Some, None}
use Rattle.std.proofs.Math.Nat.{div-le_self, mod-le}
use Rattle.std.proofs.lemmas.Int.{ints}
use Rattle.std.proofs.lemmas.Bool.Decides.{Decides-int_eq}
use Rattle.opl_domain.specs.Span.{Span, IsWithin, smaller, larger, magnitude, is_point, least_of, greatest_of, hull_of}
use Rattle.opl_domain.specs.Arithmetic.{span_add, span_neg, span_mul, span_div, span_rem, span_abs, span_min, span_max, span_hull, is_one_quotient, greatest_rest, low_rest, high_rest, wide_rem}
use Rattle.opl_domain.specs.Family.{member}
use Rattle.opl_domain.proofs.Numbers.{smaller_tells, larger_tells}
use Rattle.opl_domain.proofs.Members.{least_member, greatest_member}
use Rattle.opl_domain.proofs.IntervalLaws.{abs_is_exact, div_is_exact}
use Rattle.opl_expr.specs.Range.{span_scale}
use Rattle.opl_expr.proofs.Bounds.{abs_times}

pub abs_div : (v w : ℤ) → unsigned_abs (int_div v w) ≤ unsigned_abs v
abs_div (pos a) (pos b) = omega (arith, div-le_self a b)
abs_div (pos a) (negsuc b) = omega (arith, ints, div-le_self a (suc b))
abs_div (negsuc a) (pos b) = omega (arith, ints, div-le_self (suc a) b)
abs_div (negsuc a) (negsuc b) = omega (arith, div-le_self (suc a) (suc b))

abs_rem : (v w : ℤ) → unsigned_abs (int_rem v w) ≤ unsigned_abs v
abs_rem (pos a) w = omega (arith, mod-le a (unsigned_abs w))
abs_rem (negsuc a) w = omega (arith, ints, mod-le (suc a) (unsigned_abs w))

pub abs_smaller : (v w : ℤ) → unsigned_abs (smaller v w) ≤ max (unsigned_abs v) (unsigned_abs w)
abs_smaller v w = elim (smaller_tells v w) [ inl t ↦ omega (arith, ap unsigned_abs t.0) | inr t ↦ omega (arith, ap unsigned_abs t.0) ]

pub abs_larger : (v w : ℤ) → unsigned_abs (larger v w) ≤ max (unsigned_abs v) (unsigned_abs w)
abs_larger v w = elim (larger_tells v w) [ inl t ↦ omega (arith, ap unsigned_abs t.0) | inr t ↦ omega (arith, ap unsigned_abs t.0) ]

pub abs_plus : (x y : ℤ) → unsigned_abs (x +ℤ y) ≤ unsigned_abs x + unsigned_abs y
abs_plus x y = omega (arith, ints)

pub abs_within : (x : ℤ) (a : Span) → IsWithin x a → unsigned_abs x ≤ magnitude a
abs_within x a w = omega (arith, ints, w.least, w.most)

pub add_bound : (a b : Span) → magnitude (span_add a b) ≤ magnitude a + magnitude b
unfolding span_add
add_bound a b = omega (arith, abs_plus a.low b.low, abs_plus a.high b.high)

pub neg_bound : (a : Span) → magnitude (span_neg a) ≤ magnitude a
unfolding span_neg
neg_bound a = omega (arith, ints)

pub min_bound : (a b : Span) → magnitude (span_min a b) ≤ max (magnitude a) (magnitude b)
unfolding span_min
min_bound a b = omega (arith, abs_smaller a.low b.low, abs_smaller a.high b.high)

pub max_bound : (a b : Span) → magnitude (span_max a b) ≤ max (magnitude a) (magnitude b)
unfolding span_max
max_bound a b = omega (arith, abs_larger a.low b.low, abs_larger a.high b.high)

pub hull_bound : (a b : Span) → magnitude (span_hull a b) ≤ max (magnitude a) (magnitude b)
unfolding span_hull
hull_bound a b = omega (arith, abs_smaller a.low b.low, abs_larger a.high b.high)

pub scale_bound : (k : ℤ) (a : Span) → magnitude (span_scale k a) ≤ unsigned_abs k * magnitude a
unfolding span_scale
scale_bound k a =
    let l = abs_times k a.low (unsigned_abs k) (magnitude a) (omega arith) (omega arith) in
    let h = abs_times k a.high (unsigned_abs k) (magnitude a) (omega arith) (omega arith) in
    omega (arith, l, h, abs_smaller (k *ℤ a.low) (k *ℤ a.high), abs_larger (k *ℤ a.low) (k *ℤ a.high))

pub list_bound : (xs : List ℤ) (m : ℕ) → ((v : ℤ) → member v xs ≡ true → unsigned_abs v ≤ m) → magnitude (hull_of xs) ≤ m
unfolding hull_of
list_bound [] m h = omega arith
list_bound (v ∷ xs) m h = omega (arith, h (least_of v xs) (least_member v xs), h (greatest_of v xs) (greatest_member v xs))

pub mul_bound : (a b : Span) (m n : ℕ) → magnitude a ≤ m → magnitude b ≤ n → magnitude (span_mul a b) ≤ m * n
unfolding span_mul hull_of
mul_bound a b m n p q =
    let u = abs_times a.low b.low m n (omega (arith, p)) (omega (arith, q)) in
    let v = abs_times a.low b.high m n (omega (arith, p)) (omega (arith, q)) in
    let w = abs_times a.high b.low m n (omega (arith, p)) (omega (arith, q)) in
    let x = abs_times a.high b.high m n (omega (arith, p)) (omega (arith, q)) in
    four (a.low *ℤ b.low) (a.low *ℤ b.high) (a.high *ℤ b.low) (a.high *ℤ b.high) (m * n) u v w x
  where
    four : (p q r s : ℤ) (k : ℕ) → unsigned_abs p ≤ k → unsigned_abs q ≤ k → unsigned_abs r ≤ k → unsigned_abs s ≤ k
        → max (unsigned_abs (smaller p (smaller q (smaller r s)))) (unsigned_abs (larger p (larger q (larger r s)))) ≤ k
    four p q r s k u v w x =
        omega (arith, u, v, w, x, abs_smaller r s, abs_smaller q (smaller r s), abs_smaller p (smaller q (smaller r s)), abs_larger r s, abs_larger q (larger r s), abs_larger p (larger q (larger r s)))

pub div_bound : (a b r : Span) → span_div a b ≡ Some r → magnitude r ≤ magnitude a
div_bound a b r e =
    let l = div_is_exact.least a b r e in
    let h = div_is_exact.most a b r e in
    omega (
      arith,
      ap unsigned_abs l.gives,
      abs_div l.first l.second,
      abs_within l.first a l.first_within,
      ap unsigned_abs h.gives,
      abs_div h.first h.second,
      abs_within h.first a h.first_within,
    )

pub abs_bound : (a r : Span) → span_abs a ≡ Some r → magnitude r ≤ magnitude a
abs_bound a r e =
    let l = abs_is_exact.least a r e in
    let h = abs_is_exact.most a r e in
    omega (arith, ap unsigned_abs l.gives, abs_within l.number a l.within, ap unsigned_abs h.gives, abs_within h.number a h.within)

-- ---- remainders

not_zero : (b : Span) → is_point (pos 0) b ≡ false → 0 < magnitude b
not_zero b e = grind (arith, ints, Decides-int_eq)

greatest_small : (b : Span) → is_point (pos 0) b ≡ false → pos 0 ≤ℤ greatest_rest b
unfolding greatest_rest
greatest_small b e = omega (arith, ints, not_zero b e)

low_small : (l g : ℤ) → pos 0 ≤ℤ g → unsigned_abs (low_rest l g) ≤ unsigned_abs l
unfolding low_rest
low_small l g p = elim (int_le (pos 0) l) as (λ b. int_le (pos 0) l ≡ b → unsigned_abs (cond b (pos 0) (larger l (neg_ℤ g))) ≤ unsigned_abs l) [
  | true ↦ λ e. omega arith
  | false ↦ λ e. let s : l ≤ℤ pos 0 = grind (arith, ints) in elim (larger_tells l (neg_ℤ g)) [ inl t ↦ omega (arith, ints, s, p, t.0, t.1) | inr t ↦ omega (arith, ap unsigned_abs t.0) ]
] refl

high_small : (h g : ℤ) → pos 0 ≤ℤ g → unsigned_abs (high_rest h g) ≤ unsigned_abs h
unfolding high_rest
high_small h g p = elim (int_le h (pos 0)) as (λ b. int_le h (pos 0) ≡ b → unsigned_abs (cond b (pos 0) (smaller h g)) ≤ unsigned_abs h) [
  | true ↦ λ e. omega arith
  | false ↦ λ e. let s : pos 0 ≤ℤ h = grind (arith, ints) in elim (smaller_tells h g) [ inl t ↦ omega (arith, ap unsigned_abs t.0) | inr t ↦ omega (arith, ints, s, p, t.0, t.1) ]
] refl

made_bound : (l h : ℤ) (r a : Span) → Some (record { low = l; high = h }) ≡ Some r → unsigned_abs l ≤ unsigned_abs a.low → unsigned_abs h ≤ unsigned_abs a.high → magnitude r ≤ magnitude a
made_bound l h r a e p q = let u : l ≡ r.low = cc in let v : h ≡ r.high = cc in omega (arith, ap unsigned_abs u, ap unsigned_abs v, p, q)

pub rem_bound : (a b r : Span) → span_rem a b ≡ Some r → magnitude r ≤ magnitude a
unfolding span_rem
rem_bound a b r e = elim (is_point (pos 0) b) as (λ z. is_point (pos 0) b ≡ z
    → cond z None (Some (cond (is_one_quotient a b) (record { low = int_rem a.low b.low; high = int_rem a.high b.low }) (wide_rem a b))) ≡ Some r → magnitude r ≤ magnitude a) [
      | true ↦ λ z f. cc
      | false ↦ λ z f. elim (is_one_quotient a b) as (λ o. Some (cond o (record { low = int_rem a.low b.low; high = int_rem a.high b.low }) (wide_rem a b)) ≡ Some r → magnitude r ≤ magnitude a) [
        | true ↦ λ g. made_bound (int_rem a.low b.low) (int_rem a.high b.low) r a g (abs_rem a.low b.low) (abs_rem a.high b.low)
        | false ↦ λ g. made_bound (low_rest a.low (greatest_rest b)) (high_rest a.high (greatest_rest b)) r a g
            (low_small a.low (greatest_rest b) (greatest_small b z)) (high_small a.high (greatest_rest b) (greatest_small b z))
      ] f
    ] refl e
