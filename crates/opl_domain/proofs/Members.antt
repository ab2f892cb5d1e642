-- Which numbers are in a list, and in the lists that are made of it.
use Rattle.std.proofs.Common.{◌≡◌, ℕ, zero, suc, ◌⊎◌, Bool, true, false, cond, refl, List, [], ◌∷◌, ◌++◌, map, ℤ, pos, negsuc, ◌+ℤ◌, neg_ℤ, ◌≤ℤ◌, ◌<ℤ◌, ap, sym, subst, arith, inl, inr}
use Rattle.std.specs.List.{filter, flat_map}
use Rattle.std.specs.Prelude.{int_le, Some}
use Rattle.std.specs.Ordering.{int_eq}
use Rattle.std.proofs.lemmas.Int.{ints}
use Rattle.std.proofs.lemmas.Bool.Decides.{Decides-int_eq}
use Rattle.opl_domain.specs.Span.{Span, IsWithin, smaller, larger, least_of, greatest_of, hull_of, hull_some, ints_from, count_from, span_size, values}
use Rattle.opl_domain.specs.Family.{member}
use Rattle.opl_domain.proofs.Numbers.{smaller_left, smaller_right, larger_left, larger_right, smaller_tells, larger_tells}

-- what the test for equal numbers means
pub same_int : (v w : ℤ) → int_eq v w ≡ true → v ≡ w
same_int v w = (Decides-int_eq v w).0

pub int_eq_same : (v : ℤ) → int_eq v v ≡ true
int_eq_same v = (Decides-int_eq v v).1 refl

-- a number of a list is its first or one of the others
pub member_cases : (v w : ℤ) (xs : List ℤ) → member v (w ∷ xs) ≡ true → (v ≡ w) ⊎ (member v xs ≡ true)
member_cases v w xs h =
    elim (int_eq v w) as (λ b. int_eq v w ≡ b → cond b true (member v xs) ≡ true → (v ≡ w) ⊎ (member v xs ≡ true)) [
      | true ↦ λ e k. inl (same_int v w e)
      | false ↦ λ e k. inr k
    ] refl h

pub member_first : (v : ℤ) (xs : List ℤ) → member v (v ∷ xs) ≡ true
member_first v xs = rw (int_eq_same v) refl

pub member_here : (u w : ℤ) (xs : List ℤ) → u ≡ w → member u (w ∷ xs) ≡ true
member_here u w xs e = rw ((Decides-int_eq u w).1 e) refl

pub member_later : (v w : ℤ) (xs : List ℤ) → member v xs ≡ true → member v (w ∷ xs) ≡ true
member_later v w xs h = elim (int_eq v w) as (λ b. cond b true (member v xs) ≡ true) [ true ↦ refl | false ↦ h ]

-- the image of a list
pub member_map : (f : ℤ → ℤ) (xs : List ℤ) (v : ℤ) → member v xs ≡ true → member (f v) (map f xs) ≡ true
member_map f [] v h = cc
member_map f (w ∷ xs) v h = elim (member_cases v w xs h) [
  | inl e ↦ member_here (f v) (f w) (map f xs) (ap f e)
  | inr k ↦ member_later (f v) (f w) (map f xs) (member_map f xs v k)
]

pub from_map : (f : ℤ → ℤ) (xs : List ℤ) (u : ℤ) → member u (map f xs) ≡ true → (v : ℤ) × (member v xs ≡ true) × (u ≡ f v)
from_map f [] u h = cc
from_map f (w ∷ xs) u h = elim (member_cases u (f w) (map f xs) h) [
  | inl e ↦ (w, member_first w xs, e)
  | inr k ↦ let r = from_map f xs u k in (r.0, member_later r.0 w xs r.1, r.2)
]

-- two lists in a row
pub member_left : (xs ys : List ℤ) (v : ℤ) → member v xs ≡ true → member v (xs ++ ys) ≡ true
member_left [] ys v h = cc
member_left (w ∷ xs) ys v h = elim (member_cases v w xs h) [
  | inl e ↦ member_here v w (xs ++ ys) e
  | inr k ↦ member_later v w (xs ++ ys) (member_left xs ys v k)
]

pub member_right : (xs ys : List ℤ) (v : ℤ) → member v ys ≡ true → member v (xs ++ ys) ≡ true
member_right [] ys v h = h
member_right (w ∷ xs) ys v h = member_later v w (xs ++ ys) (member_right xs ys v h)

pub from_append : (xs ys : List ℤ) (v : ℤ) → member v (xs ++ ys) ≡ true → (member v xs ≡ true) ⊎ (member v ys ≡ true)
from_append [] ys v h = inr h
from_append (w ∷ xs) ys v h = elim (member_cases v w (xs ++ ys) h) [
  | inl e ↦ inl (member_here v w xs e)
  | inr k ↦ elim (from_append xs ys v k) [ inl p ↦ inl (member_later v w xs p) | inr p ↦ inr p ]
]

-- the images of a list, one after another
pub member_flat : (f : ℤ → List ℤ) (xs : List ℤ) (v u : ℤ) → member v xs ≡ true → member u (f v) ≡ true → member u (flat_map f xs) ≡ true
member_flat f [] v u h k = cc
member_flat f (w ∷ xs) v u h k = elim (member_cases v w xs h) [
  | inl e ↦ member_left (f w) (flat_map f xs) u (rw e at k)
  | inr p ↦ member_right (f w) (flat_map f xs) u (member_flat f xs v u p k)
]

pub from_flat : (f : ℤ → List ℤ) (xs : List ℤ) (u : ℤ) → member u (flat_map f xs) ≡ true → (v : ℤ) × (member v xs ≡ true) × (member u (f v) ≡ true)
from_flat f [] u h = cc
from_flat f (w ∷ xs) u h = elim (from_append (f w) (flat_map f xs) u h) [
  | inl k ↦ (w, member_first w xs, k)
  | inr k ↦ let r = from_flat f xs u k in (r.0, member_later r.0 w xs r.1, r.2)
]

-- the numbers that pass a test
pub member_filter : (p : ℤ → Bool) (xs : List ℤ) (v : ℤ) → member v xs ≡ true → p v ≡ true → member v (filter p xs) ≡ true
member_filter p [] v h k = cc
member_filter p (w ∷ xs) v h k = elim (member_cases v w xs h) [
  | inl e ↦ rw (sym e) (rw k (member_first v (filter p xs)))
  | inr q ↦ elim (p w) as (λ b. member v (cond b (w ∷ filter p xs) (filter p xs)) ≡ true) [
    | true ↦ member_later v w (filter p xs) (member_filter p xs v q k)
    | false ↦ member_filter p xs v q k
  ]
]

pub from_filter : (p : ℤ → Bool) (xs : List ℤ) (v : ℤ) → member v (filter p xs) ≡ true → (member v xs ≡ true) × (p v ≡ true)
from_filter p [] v h = cc
from_filter p (w ∷ xs) v h = elim (p w) as (λ b. p w ≡ b → member v (cond b (w ∷ filter p xs) (filter p xs)) ≡ true → (member v (w ∷ xs) ≡ true) × (p v ≡ true)) [
  | true ↦ λ e k. elim (member_cases v w (filter p xs) k) [
    | inl q ↦ (member_here v w xs q, rw q e)
    | inr q ↦ let r = from_filter p xs v q in (member_later v w xs r.0, r.1)
  ]
  | false ↦ λ e k. let r = from_filter p xs v k in (member_later v w xs r.0, r.1)
] refl h

-- the least number of a list is in it, and at most each
pub least_member : (v : ℤ) (xs : List ℤ) → member (least_of v xs) (v ∷ xs) ≡ true
least_member v [] = member_first v []
least_member v (w ∷ xs) = elim (smaller_tells v (least_of w xs)) [
  | inl p ↦ member_here (smaller v (least_of w xs)) v (w ∷ xs) p.0
  | inr p ↦ member_later (smaller v (least_of w xs)) v (w ∷ xs) (subst (λ u. member u (w ∷ xs) ≡ true) (sym p.0) (least_member w xs))
]

pub least_is : (v : ℤ) (xs : List ℤ) (u : ℤ) → member u (v ∷ xs) ≡ true → least_of v xs ≤ℤ u
least_is v [] u h = elim (member_cases u v [] h) [ inl e ↦ omega (arith, ints, e) | inr k ↦ cc ]
least_is v (w ∷ xs) u h = elim (member_cases u v (w ∷ xs) h) [
  | inl e ↦ omega (arith, ints, e, smaller_left v (least_of w xs))
  | inr k ↦ omega (arith, ints, smaller_right v (least_of w xs), least_is w xs u k)
]

-- the greatest number of a list is in it, and at least each
pub greatest_member : (v : ℤ) (xs : List ℤ) → member (greatest_of v xs) (v ∷ xs) ≡ true
greatest_member v [] = member_first v []
greatest_member v (w ∷ xs) = elim (larger_tells v (greatest_of w xs)) [
  | inl p ↦ member_later (larger v (greatest_of w xs)) v (w ∷ xs) (subst (λ u. member u (w ∷ xs) ≡ true) (sym p.0) (greatest_member w xs))
  | inr p ↦ member_here (larger v (greatest_of w xs)) v (w ∷ xs) p.0
]

pub greatest_is : (v : ℤ) (xs : List ℤ) (u : ℤ) → member u (v ∷ xs) ≡ true → u ≤ℤ greatest_of v xs
greatest_is v [] u h = elim (member_cases u v [] h) [ inl e ↦ omega (arith, ints, e) | inr k ↦ cc ]
greatest_is v (w ∷ xs) u h = elim (member_cases u v (w ∷ xs) h) [
  | inl e ↦ omega (arith, ints, e, larger_left v (greatest_of w xs))
  | inr k ↦ omega (arith, ints, larger_right v (greatest_of w xs), greatest_is w xs u k)
]

-- two numbers that bound each other are one
pub between_is : (x y : ℤ) → x ≤ℤ y → y ≤ℤ x → x ≡ y
between_is x y h k = omega (arith, ints)

-- the ends of a hull are those two members between which all are
pub hull_is : (xs : List ℤ) (l h : ℤ) → member l xs ≡ true → member h xs ≡ true → ((u : ℤ) → member u xs ≡ true → (l ≤ℤ u) × (u ≤ℤ h)) → hull_some xs ≡ Some (record { low = l; high = h })
unfolding hull_of
hull_is [] l h a b all = cc
hull_is (v ∷ xs) l h a b all =
    rw (
      between_is (least_of v xs) l (least_is v xs l a) (all (least_of v xs) (least_member v xs)).0,
      between_is (greatest_of v xs) h (all (greatest_of v xs) (greatest_member v xs)).1 (greatest_is v xs h b),
    ) refl

-- a rising row of n numbers from v on
pub in_ints : (v : ℤ) (n : ℕ) (u : ℤ) → v ≤ℤ u → u <ℤ (v +ℤ pos n) → member u (ints_from v n) ≡ true
in_ints v zero u h k = absurd (omega (arith, ints))
in_ints v (suc n) u h k = elim (int_eq u v) as (λ b. int_eq u v ≡ b → cond b true (member u (ints_from (v +ℤ pos 1) n)) ≡ true) [
  | true ↦ λ e. refl
  | false ↦ λ e. in_ints (v +ℤ pos 1) n u (grind (arith, ints, Decides-int_eq)) (omega (arith, ints))
] refl

pub from_ints : (v : ℤ) (n : ℕ) (u : ℤ) → member u (ints_from v n) ≡ true → (v ≤ℤ u) × (u <ℤ (v +ℤ pos n))
from_ints v zero u h = cc
from_ints v (suc n) u h = elim (member_cases u v (ints_from (v +ℤ pos 1) n) h) [
  | inl e ↦ (omega (arith, ints, e), omega (arith, ints, e))
  | inr k ↦ let r = from_ints (v +ℤ pos 1) n u k in (omega (arith, ints, r.0, r.1), omega (arith, ints, r.0, r.1))
]

-- the count of an interval's numbers
pub count_is : (z : ℤ) → pos 0 ≤ℤ z → pos (count_from z) ≡ z
count_is (pos n) h = refl
count_is (negsuc n) h = absurd (omega (arith, ints))

count_none : (z : ℤ) → z ≤ℤ pos 0 → count_from z ≡ 0
count_none (pos n) h = omega (arith, ints)
count_none (negsuc n) h = refl

-- the numbers of an interval are those within it
pub in_values : (a : Span) (u : ℤ) → IsWithin u a → member u (values a) ≡ true
unfolding values
in_values a u w = in_ints a.low (span_size a) u w.least (let e = count_is (a.high +ℤ pos 1 +ℤ neg_ℤ a.low) (omega (arith, ints, w.least, w.most)) in omega (arith, ints, e, w.least, w.most))

pub from_values : (a : Span) (u : ℤ) → member u (values a) ≡ true → IsWithin u a
unfolding values
from_values a u h =
    let r = from_ints a.low (span_size a) u h in
    let z = a.high +ℤ pos 1 +ℤ neg_ℤ a.low in
    elim (int_le (pos 0) z) as (λ b. int_le (pos 0) z ≡ b → IsWithin u a) [
      | true ↦ λ e. let k = count_is z (grind (arith, ints)) in record { least = r.0; most = omega (arith, ints, r.0, r.1, k) }
      | false ↦ λ e. let k = count_none z (grind (arith, ints)) in absurd (omega (arith, ints, r.0, r.1, k))
    ] refl
