-- The rows of intervals in the form in which the code computes them.
use Rattle.std.proofs.Common.{◌≡◌, ℕ, zero, suc, true, false, cond, ◌&&◌, refl, List, [], ◌∷◌, map, ℤ, pos, negsuc, ◌*ℤ◌, ◌<◌, max, eqb, ◌≢◌, to_z, of_z, neg_ℤ, ◌≤ℤ◌, ◌<ℤ◌, ap, sym, ◌∙◌, arith, inl, inr}
use Rattle.std.specs.List.{filter}
use Rattle.std.specs.Prelude.{FitsSigned, int_div, int_rem, unsigned_abs, Option, Some, None}
use Rattle.std.specs.Ordering.{int_eq}
use Rattle.std.proofs.lemmas.Int.{ints, quot-rem, to_z-of_z}
use mir.Syntax.{w128}
use Rattle.std.proofs.lemmas.Bool.Decides.{same_from_decides, Decides-like, Decides-eqb, Decides-int_eq}
use Rattle.opl_domain.specs.Span.{Span, IsWithin, smaller, larger, point, is_point, least_of, greatest_of, hull_of, hull_some, values}
use Rattle.opl_domain.specs.Arithmetic.{low_rest, high_rest, is_one_quotient, wide_rem, span_rem, is_divisor, span_abs, span_div, span_hull, joined_to, with_quotients}
use Rattle.opl_domain.proofs.Numbers.{smaller_tells, larger_tells, larger_right}
use Rattle.opl_domain.proofs.Members.{member_map, from_map, hull_is, in_values, from_values}
use Rattle.opl_domain.proofs.Quotients.{end_quotients, div_by_ends}

-- ---- absolute values

abs_pos : (x : ℤ) → pos 0 ≤ℤ x → pos (unsigned_abs x) ≡ x
abs_pos (pos n) h = refl
abs_pos (negsuc n) h = absurd (omega (arith, ints))

abs_neg : (x : ℤ) → x ≤ℤ pos 0 → pos (unsigned_abs x) ≡ neg_ℤ x
abs_neg (pos zero) h = refl
abs_neg (pos (suc n)) h = absurd (omega (arith, ints))
abs_neg (negsuc n) h = refl

low_within : (a : Span) → a.low ≤ℤ a.high → IsWithin a.low a
low_within a o = record { least = omega (arith, ints); most = o }

high_within : (a : Span) → a.low ≤ℤ a.high → IsWithin a.high a
high_within a o = record { least = o; most = omega (arith, ints) }

-- l and h are absolute values of numbers of a, and bound all
abs_is : (a : Span) (x y : ℤ) → IsWithin x a → IsWithin y a → ((v : ℤ) → IsWithin v a → (pos (unsigned_abs x) ≤ℤ pos (unsigned_abs v)) × (pos (unsigned_abs v) ≤ℤ pos (unsigned_abs y))) → span_abs a ≡ Some (record { low = pos (unsigned_abs x); high = pos (unsigned_abs y) })
unfolding span_abs
abs_is a x y p q all = hull_is (map (λ v. pos (unsigned_abs v)) (values a)) (pos (unsigned_abs x)) (pos (unsigned_abs y))
    (member_map (λ v. pos (unsigned_abs v)) (values a) x (in_values a x p)) (member_map (λ v. pos (unsigned_abs v)) (values a) y (in_values a y q))
    (λ u m. let r = from_map (λ v. pos (unsigned_abs v)) (values a) u m in let b = all r.0 (from_values a r.0 r.1) in (omega (arith, ints, r.2, b.0), omega (arith, ints, r.2, b.1)))

pub abs_up : (a : Span) → a.low ≤ℤ a.high → pos 0 ≤ℤ a.low → Some a ≡ span_abs a
abs_up a o p =
    let e = abs_is a a.low a.high (low_within a o) (high_within a o) (λ v w. (omega (arith, ints, w.least, abs_pos a.low p), omega (arith, ints, w.least, w.most))) in
    rw e (rw (abs_pos a.low p, abs_pos a.high (omega (arith, ints))) refl)

pub abs_down : (a : Span) → a.low ≤ℤ a.high → a.high ≤ℤ pos 0 → Some (record { low = neg_ℤ a.high; high = neg_ℤ a.low }) ≡ span_abs a
abs_down a o p =
    let e = abs_is a a.high a.low (high_within a o) (low_within a o) (λ v w. (omega (arith, ints, w.most), omega (arith, ints, w.least, w.most))) in
    rw e (rw (abs_neg a.high p, abs_neg a.low (omega (arith, ints))) refl)

pub abs_over : (a : Span) → a.low ≤ℤ pos 0 → pos 0 ≤ℤ a.high → Some (record { low = pos 0; high = larger (neg_ℤ a.low) a.high }) ≡ span_abs a
abs_over a o p =
    let zero_in : IsWithin (pos 0) a = record { least = o; most = p } in
    let ordered : a.low ≤ℤ a.high = omega (arith, ints) in
    elim (larger_tells (neg_ℤ a.low) a.high) [
      | inl t ↦ rw (t.0, abs_is a (pos 0) a.high zero_in (high_within a ordered) (λ v w. (omega (arith, ints), omega (arith, ints, w.least, w.most, t.1))), abs_pos a.high p) refl
      | inr t ↦ rw (t.0, abs_is a (pos 0) a.low zero_in (low_within a ordered) (λ v w. (omega (arith, ints), omega (arith, ints, w.least, w.most, t.1))), abs_neg a.low o) refl
    ]

-- ---- quotients

pub with_none : (a b : Span) (y : ℤ) (found : Option Span) → is_divisor b y ≡ false → found ≡ with_quotients a b y found
unfolding with_quotients
with_none a b y found e = rw e refl

pub with_some : (a b : Span) (y : ℤ) (found : Option Span) → is_divisor b y ≡ true → Some (joined_to (span_hull (point (int_div a.low y)) (point (int_div a.high y))) found) ≡ with_quotients a b y found
unfolding with_quotients
with_some a b y found e = rw e refl

-- ---- remainders

pub rem_in_order : (x y d : ℤ) → x ≤ℤ y → int_div x d ≡ int_div y d → int_rem x d ≤ℤ int_rem y d
rem_in_order x y d o e = omega (arith, ints, quot-rem x d, quot-rem y d, ap (λ q. q *ℤ d) e)

pub same_bits : (x y : ℤ) → FitsSigned w128 x → FitsSigned w128 y → of_z w128 x ≡ of_z w128 y → x ≡ y
same_bits x y p q e = sym (to_z-of_z w128 x p) ∙ ap (to_z w128) e ∙ to_z-of_z w128 y q

pub zero_bits : (x : ℤ) → FitsSigned w128 x → of_z w128 x ≡ 0 → x ≡ pos 0
zero_bits x p e = sym (to_z-of_z w128 x p) ∙ ap (to_z w128) e

-- an interval that isn't the 0 alone has a number but 0
pub some_nonzero : (b : Span) → b.low ≤ℤ b.high → is_point (pos 0) b ≡ false → 0 < max (unsigned_abs b.low) (unsigned_abs b.high)
some_nonzero b o e = grind (arith, ints, Decides-int_eq)

pub one_nonzero : (b : Span) → b.low ≡ b.high → is_point (pos 0) b ≡ false → b.low ≢ pos 0
one_nonzero b o e = λ z. grind (arith, Decides-int_eq)

pub rem_none : (a b : Span) → is_point (pos 0) b ≡ true → None ≡ span_rem a b
unfolding span_rem
rem_none a b e = rw e refl

pub rem_one : (a b : Span) → is_point (pos 0) b ≡ false → is_one_quotient a b ≡ true → Some (record { low = int_rem a.low b.low; high = int_rem a.high b.low }) ≡ span_rem a b
unfolding span_rem
rem_one a b e q = rw (e, q) refl

pub rem_more : (a b : Span) → is_point (pos 0) b ≡ false → is_one_quotient a b ≡ false → Some (wide_rem a b) ≡ span_rem a b
unfolding span_rem
rem_more a b e q = rw (e, q) refl

pub same_bits_test : (x y : ℤ) → FitsSigned w128 x → FitsSigned w128 y → eqb (of_z w128 x) (of_z w128 y) ≡ int_eq x y
same_bits_test x y p q = same_from_decides (eqb (of_z w128 x) (of_z w128 y)) (int_eq x y)
    (Decides-like (eqb (of_z w128 x) (of_z w128 y)) (same_bits x y p q) (ap (of_z w128)) (Decides-eqb (of_z w128 x) (of_z w128 y))) (Decides-int_eq x y)

pub two_quotients : (a b : Span) → b.low ≢ b.high → false ≡ is_one_quotient a b
two_quotients a b n = elim (int_eq b.low b.high) as (λ t. int_eq b.low b.high ≡ t → false ≡ (t && int_eq (int_div a.low b.low) (int_div a.high b.low))) [
  | true ↦ λ e. absurd (n ((Decides-int_eq b.low b.high).0 e))
  | false ↦ λ e. refl
] refl

pub one_quotient_test : (a b : Span) → b.low ≡ b.high → int_eq (int_div a.low b.low) (int_div a.high b.low) ≡ is_one_quotient a b
one_quotient_test a b e = rw ((Decides-int_eq b.low b.high).1 e) refl

pub one_quotient : (a b : Span) → is_one_quotient a b ≡ true → int_div a.low b.low ≡ int_div a.high b.low
one_quotient a b e = elim (int_eq b.low b.high) as (λ t. (t && int_eq (int_div a.low b.low) (int_div a.high b.low)) ≡ true → int_div a.low b.low ≡ int_div a.high b.low) [
  | true ↦ λ k. (Decides-int_eq (int_div a.low b.low) (int_div a.high b.low)).0 k
  | false ↦ λ k. cc
] e

pub larger_pos : (m n : ℕ) → larger (pos m) (pos n) ≡ pos (max m n)
unfolding larger
larger_pos m n = grind (arith, ints)

pub high_zero : (hi m : ℤ) → hi ≤ℤ pos 0 → pos 0 ≡ high_rest hi m
unfolding high_rest
high_zero hi m h = grind (arith, ints)

pub high_more : (hi m r : ℤ) → pos 0 <ℤ hi → r ≡ smaller hi m → r ≡ high_rest hi m
unfolding high_rest
high_more hi m r h e = grind (arith, ints)

pub high_sign : (hi m r : ℤ) → pos 0 <ℤ hi → pos 0 ≤ℤ m → r ≡ smaller hi m → pos 0 ≤ℤ r
high_sign hi m r h k e = elim (smaller_tells hi m) [ inl t ↦ omega (arith, ints, e, t.0) | inr t ↦ omega (arith, ints, e, t.0) ]

pub low_zero : (lo m : ℤ) → pos 0 ≤ℤ lo → pos 0 ≡ low_rest lo m
unfolding low_rest
low_zero lo m h = grind (arith, ints)

pub low_more : (lo m r : ℤ) → lo <ℤ pos 0 → r ≡ larger lo (neg_ℤ m) → r ≡ low_rest lo m
unfolding low_rest
low_more lo m r h e = grind (arith, ints)

pub low_sign : (lo m r : ℤ) → lo <ℤ pos 0 → pos 0 ≤ℤ m → r ≡ larger lo (neg_ℤ m) → r ≤ℤ pos 0
low_sign lo m r h k e = elim (larger_tells lo (neg_ℤ m)) [ inl t ↦ omega (arith, ints, e, t.0) | inr t ↦ omega (arith, ints, e, t.0) ]

-- ---- the hulls of all divisors, one after another

smaller_assoc : (x y z : ℤ) → smaller x (smaller y z) ≡ smaller (smaller x y) z
smaller_assoc x y z = grind (arith, ints, smaller_tells)

larger_assoc : (x y z : ℤ) → larger x (larger y z) ≡ larger (larger x y) z
larger_assoc x y z = grind (arith, ints, larger_tells)

two_more : (p q : ℤ) (rest : List ℤ) → Some (joined_to (span_hull (point p) (point q)) (hull_some rest)) ≡ hull_some (p ∷ q ∷ rest)
unfolding span_hull hull_of
two_more p q [] = refl
two_more p q (r ∷ rest) = rw (smaller_assoc p q (least_of r rest), larger_assoc p q (greatest_of r rest)) refl

one_divisor : (a b : Span) (y : ℤ) (ys : List ℤ) → with_quotients a b y (hull_some (end_quotients a (filter (is_divisor b) ys))) ≡ hull_some (end_quotients a (filter (is_divisor b) (y ∷ ys)))
unfolding with_quotients
one_divisor a b y ys = elim (is_divisor b y) as (λ t. cond t (Some (joined_to (span_hull (point (int_div a.low y)) (point (int_div a.high y))) (hull_some (end_quotients a (filter (is_divisor b) ys))))) (hull_some (end_quotients a (filter (is_divisor b) ys))) ≡ hull_some (end_quotients a (cond t (y ∷ filter (is_divisor b) ys) (filter (is_divisor b) ys)))) [
  | true ↦ two_more (int_div a.low y) (int_div a.high y) (end_quotients a (filter (is_divisor b) ys))
  | false ↦ refl
]

pub by_all_divisors : (a b : Span) → a.low ≤ℤ a.high → with_quotients a b b.low (with_quotients a b b.high (with_quotients a b (pos 1) (with_quotients a b (negsuc 0) None))) ≡ span_div a b
by_all_divisors a b o =
    rw (one_divisor a b (negsuc 0) [], one_divisor a b (pos 1) (negsuc 0 ∷ []), one_divisor a b b.high (pos 1 ∷ negsuc 0 ∷ []), one_divisor a b b.low (b.high ∷ pos 1 ∷ negsuc 0 ∷ []))
    (sym (div_by_ends a b o))

-- ---- the ends of results

pub larger_at : (r x y u v : ℤ) → r ≡ larger x y → x ≡ u → y ≡ v → r ≡ larger u v
larger_at r x y u v e p q = cc

pub smaller_at : (r x y u v : ℤ) → r ≡ smaller x y → x ≡ u → y ≡ v → r ≡ smaller u v
smaller_at r x y u v e p q = cc

pub above_right : (r x y : ℤ) → r ≡ larger x y → y ≤ℤ r
above_right r x y e = omega (arith, ints, e, larger_right x y)
