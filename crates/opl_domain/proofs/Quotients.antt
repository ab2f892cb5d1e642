-- The hull of all quotients of two intervals is that of a few of them.
use Rattle.std.proofs.Common.{◌≡◌, ℕ, suc, ◌/◌, ◌≤◌, ◌<◌, ◌⊎◌, true, false, refl, List, [], ◌∷◌, map, ℤ, pos, negsuc, ◌≤ℤ◌, ◌<ℤ◌, sym, subst, arith, inl, inr}
use Rattle.std.specs.List.{filter, flat_map}
use Rattle.std.specs.Prelude.{int_le, int_div}
use Rattle.std.proofs.Math.Nat.{mul-le-mul_left, div-mul-le_self}
use Rattle.std.proofs.lemmas.Nat.{le-div}
use Rattle.std.proofs.lemmas.Int.{ints}
use Rattle.std.proofs.lemmas.Bool.Decides.{Decides-int_eq}
use Rattle.opl_domain.specs.Span.{Span, IsWithin, least_of, greatest_of, hull_of, hull_some, values}
use Rattle.opl_domain.specs.Arithmetic.{is_nonzero, is_divisor, span_div}
use Rattle.opl_domain.specs.Family.{member}
use Rattle.opl_domain.proofs.Members.{member_cases, member_first, member_later, member_here, member_map, from_map, member_flat, from_flat, member_filter, from_filter, least_member, least_is, greatest_member, greatest_is, hull_is, in_values, from_values}

-- a greater dividend has no smaller quotient, a greater divisor no greater one
div_over : (a b d : ℕ) → 0 < d → a ≤ b → a / d ≤ b / d
div_over a b d p h = le-div (a / d) b d p (omega (arith, div-mul-le_self a d))

div_under : (a d e : ℕ) → 0 < d → d ≤ e → a / e ≤ a / d
div_under a d e p h = le-div (a / e) a d p (omega (arith, div-mul-le_self a e, mul-le-mul_left (a / e) h))

-- the quotient by a positive divisor rises with the dividend
pub rises : (x u y : ℤ) → x ≤ℤ u → pos 0 <ℤ y → int_div x y ≤ℤ int_div u y
rises (pos a) (pos b) (pos d) h p = omega (arith, ints, div_over a b d (omega (arith, ints)) (omega (arith, ints)))
rises (pos a) (negsuc b) (pos d) h p = absurd (omega (arith, ints))
rises (negsuc a) (pos b) (pos d) h p = omega (arith, ints)
rises (negsuc a) (negsuc b) (pos d) h p = omega (arith, ints, div_over (suc b) (suc a) d (omega (arith, ints)) (omega (arith, ints)))
rises x u (negsuc d) h p = absurd (omega (arith, ints))

-- that by a negative divisor falls
pub falls : (x u y : ℤ) → x ≤ℤ u → y <ℤ pos 0 → int_div u y ≤ℤ int_div x y
falls (pos a) (pos b) (negsuc d) h p = omega (arith, ints, div_over a b (suc d) (omega (arith, ints)) (omega (arith, ints)))
falls (pos a) (negsuc b) (negsuc d) h p = absurd (omega (arith, ints))
falls (negsuc a) (pos b) (negsuc d) h p = omega (arith, ints)
falls (negsuc a) (negsuc b) (negsuc d) h p = omega (arith, ints, div_over (suc b) (suc a) (suc d) (omega (arith, ints)) (omega (arith, ints)))
falls x u (pos d) h p = absurd (omega (arith, ints))

-- of two positive divisors the greater one has the quotient nearer to 0
positive_up : (x y z : ℤ) → pos 0 ≤ℤ x → pos 0 <ℤ y → y ≤ℤ z → int_div x z ≤ℤ int_div x y
positive_up (pos a) (pos d) (pos e) h p q = omega (arith, ints, div_under a d e (omega (arith, ints)) (omega (arith, ints)))
positive_up (pos a) (pos d) (negsuc e) h p q = absurd (omega (arith, ints))
positive_up (pos a) (negsuc d) z h p q = absurd (omega (arith, ints))
positive_up (negsuc a) y z h p q = absurd (omega (arith, ints))

positive_down : (x y z : ℤ) → x <ℤ pos 0 → pos 0 <ℤ y → y ≤ℤ z → int_div x y ≤ℤ int_div x z
positive_down (negsuc a) (pos d) (pos e) h p q = omega (arith, ints, div_under (suc a) d e (omega (arith, ints)) (omega (arith, ints)))
positive_down (negsuc a) (pos d) (negsuc e) h p q = absurd (omega (arith, ints))
positive_down (negsuc a) (negsuc d) z h p q = absurd (omega (arith, ints))
positive_down (pos a) y z h p q = absurd (omega (arith, ints))

-- of two negative divisors the lesser one has it
negative_up : (x y z : ℤ) → pos 0 ≤ℤ x → z <ℤ pos 0 → y ≤ℤ z → int_div x z ≤ℤ int_div x y
negative_up (pos a) (negsuc d) (negsuc e) h p q = omega (arith, ints, div_under a (suc e) (suc d) (omega (arith, ints)) (omega (arith, ints)))
negative_up (pos a) (pos d) (negsuc e) h p q = absurd (omega (arith, ints))
negative_up (pos a) y (pos e) h p q = absurd (omega (arith, ints))
negative_up (negsuc a) y z h p q = absurd (omega (arith, ints))

negative_down : (x y z : ℤ) → x <ℤ pos 0 → z <ℤ pos 0 → y ≤ℤ z → int_div x y ≤ℤ int_div x z
negative_down (negsuc a) (negsuc d) (negsuc e) h p q = omega (arith, ints, div_under (suc a) (suc e) (suc d) (omega (arith, ints)) (omega (arith, ints)))
negative_down (negsuc a) (pos d) (negsuc e) h p q = absurd (omega (arith, ints))
negative_down (negsuc a) y (pos e) h p q = absurd (omega (arith, ints))
negative_down (pos a) y z h p q = absurd (omega (arith, ints))

-- l and h bound a number
pub record Bounds (l h v : ℤ) : Type 0 where
  pub below : l ≤ℤ v
  pub above : v ≤ℤ h

-- what bounds the quotients of a number by both ends of a row of divisors of one sign bounds those by all of them
between_positive : (l h x p y q : ℤ) → pos 0 <ℤ p → p ≤ℤ y → y ≤ℤ q → Bounds l h (int_div x p) → Bounds l h (int_div x q) → Bounds l h (int_div x y)
between_positive l h x p y q s i j u v =
    elim (int_le (pos 0) x) as (λ b. int_le (pos 0) x ≡ b → Bounds l h (int_div x y)) [
      | true ↦ λ e. let o : pos 0 ≤ℤ x = grind (arith, ints) in
          record { below = omega (arith, ints, u.below, v.below, positive_up x y q o (omega (arith, ints)) j); above = omega (arith, ints, u.above, positive_up x p y o s i) }
      | false ↦ λ e. let o : x <ℤ pos 0 = grind (arith, ints) in
          record { below = omega (arith, ints, u.below, positive_down x p y o s i); above = omega (arith, ints, v.above, positive_down x y q o (omega (arith, ints)) j) }
    ] refl

between_negative : (l h x p y q : ℤ) → q <ℤ pos 0 → p ≤ℤ y → y ≤ℤ q → Bounds l h (int_div x p) → Bounds l h (int_div x q) → Bounds l h (int_div x y)
between_negative l h x p y q s i j u v =
    elim (int_le (pos 0) x) as (λ b. int_le (pos 0) x ≡ b → Bounds l h (int_div x y)) [
      | true ↦ λ e. let o : pos 0 ≤ℤ x = grind (arith, ints) in
          record { below = omega (arith, ints, v.below, negative_up x y q o s j); above = omega (arith, ints, u.above, negative_up x p y o (omega (arith, ints)) i) }
      | false ↦ λ e. let o : x <ℤ pos 0 = grind (arith, ints) in
          record { below = omega (arith, ints, u.below, negative_down x p y o (omega (arith, ints)) i); above = omega (arith, ints, v.above, negative_down x y q o s j) }
    ] refl

-- what bounds the quotients of both ends by a divisor bounds those of all numbers between
between_ends : (l h : ℤ) (a : Span) (x y : ℤ) → IsWithin x a → is_nonzero y ≡ true → Bounds l h (int_div a.low y) → Bounds l h (int_div a.high y) → Bounds l h (int_div x y)
between_ends l h a x y w n u v =
    elim (int_le (pos 0) y) as (λ b. int_le (pos 0) y ≡ b → Bounds l h (int_div x y)) [
      | true ↦ λ e. let p : pos 0 <ℤ y = grind (arith, ints, Decides-int_eq) in
          record { below = omega (arith, ints, u.below, rises a.low x y w.least p); above = omega (arith, ints, v.above, rises x a.high y w.most p) }
      | false ↦ λ e. let p : y <ℤ pos 0 = grind (arith, ints) in
          record { below = omega (arith, ints, v.below, falls x a.high y w.most p); above = omega (arith, ints, u.above, falls a.low x y w.least p) }
    ] refl

-- ---- the divisors that serve, and their quotients

abbrev pub end_divisors : Span → List ℤ
end_divisors b = filter (is_divisor b) (b.low ∷ b.high ∷ pos 1 ∷ negsuc 0 ∷ [])

abbrev pub end_quotients : Span → List ℤ → List ℤ
end_quotients a ys = flat_map (λ y. int_div a.low y ∷ int_div a.high y ∷ []) ys

abbrev all_quotients : Span → Span → List ℤ
all_quotients a b = flat_map (λ y. map (λ x. int_div x y) (values a)) (filter is_nonzero (values b))

-- y is a number of b, and not 0
pub record Divides (b : Span) (y : ℤ) : Type 0 where
  pub nonzero : is_nonzero y ≡ true
  pub within : IsWithin y b

divides : (b : Span) (y : ℤ) → is_divisor b y ≡ true → Divides b y
divides b y h = record { nonzero = grind arith; within = record { least = grind (arith, ints); most = grind (arith, ints) } }

is_divided : (b : Span) (y : ℤ) → Divides b y → is_divisor b y ≡ true
is_divided b y d = let o = d.within.least in let u = d.within.most in let n = d.nonzero in grind (arith, ints)

-- each of them is a quotient
ends_are : (a b : Span) → a.low ≤ℤ a.high → (u : ℤ) → member u (end_quotients a (end_divisors b)) ≡ true → member u (all_quotients a b) ≡ true
ends_are a b o u h =
    let r = from_flat (λ y. int_div a.low y ∷ int_div a.high y ∷ []) (end_divisors b) u h in
    let d = divides b r.0 (from_filter (is_divisor b) (b.low ∷ b.high ∷ pos 1 ∷ negsuc 0 ∷ []) r.0 r.1).1 in
    let here = member_filter is_nonzero (values b) r.0 (in_values b r.0 d.within) d.nonzero in
    member_flat (λ y. map (λ x. int_div x y) (values a)) (filter is_nonzero (values b)) r.0 u here
    (elim (member_cases u (int_div a.low r.0) (int_div a.high r.0 ∷ []) r.2) [
      | inl e ↦ subst (λ w. member w (map (λ x. int_div x r.0) (values a)) ≡ true) (sym e)
          (member_map (λ x. int_div x r.0) (values a) a.low (in_values a a.low (record { least = omega (arith, ints); most = o })))
      | inr k ↦ elim (member_cases u (int_div a.high r.0) [] k) [
        | inl e ↦ subst (λ w. member w (map (λ x. int_div x r.0) (values a)) ≡ true) (sym e)
            (member_map (λ x. int_div x r.0) (values a) a.high (in_values a a.high (record { least = o; most = omega (arith, ints) })))
        | inr f ↦ cc
      ]
    ])

-- what is in a list of four
in_four : (p q r s u : ℤ) → (u ≡ p) ⊎ ((u ≡ q) ⊎ ((u ≡ r) ⊎ (u ≡ s))) → member u (p ∷ q ∷ r ∷ s ∷ []) ≡ true
in_four p q r s u (inl e) = member_here u p (q ∷ r ∷ s ∷ []) e
in_four p q r s u (inr (inl e)) = member_later u p (q ∷ r ∷ s ∷ []) (member_here u q (r ∷ s ∷ []) e)
in_four p q r s u (inr (inr (inl e))) = member_later u p (q ∷ r ∷ s ∷ []) (member_later u q (r ∷ s ∷ []) (member_here u r (s ∷ []) e))
in_four p q r s u (inr (inr (inr e))) = member_later u p (q ∷ r ∷ s ∷ []) (member_later u q (r ∷ s ∷ []) (member_later u r (s ∷ []) (member_here u s [] e)))

-- y is one of the divisors that serve
abbrev Serves : Span → ℤ → Type 0
Serves b y = Divides b y × (member y (b.low ∷ b.high ∷ pos 1 ∷ negsuc 0 ∷ []) ≡ true)

serving_low : (a b : Span) (y : ℤ) → Serves b y → member (int_div a.low y) (end_quotients a (end_divisors b)) ≡ true
serving_low a b y s = member_flat (λ z. int_div a.low z ∷ int_div a.high z ∷ []) (end_divisors b) y (int_div a.low y)
    (member_filter (is_divisor b) (b.low ∷ b.high ∷ pos 1 ∷ negsuc 0 ∷ []) y s.1 (is_divided b y s.0)) (member_first (int_div a.low y) (int_div a.high y ∷ []))

serving_high : (a b : Span) (y : ℤ) → Serves b y → member (int_div a.high y) (end_quotients a (end_divisors b)) ≡ true
serving_high a b y s = member_flat (λ z. int_div a.low z ∷ int_div a.high z ∷ []) (end_divisors b) y (int_div a.high y)
    (member_filter (is_divisor b) (b.low ∷ b.high ∷ pos 1 ∷ negsuc 0 ∷ []) y s.1 (is_divided b y s.0))
    (member_later (int_div a.high y) (int_div a.low y) (int_div a.high y ∷ []) (member_first (int_div a.high y) []))

-- between two of them, of one sign, lies each divisor
pub record Between (b : Span) (y : ℤ) : Type 0 where
  pub from : ℤ
  pub to : ℤ
  pub from_serves : Serves b from
  pub to_serves : Serves b to
  pub least : from ≤ℤ y
  pub most : y ≤ℤ to
  pub one_sign : (pos 0 <ℤ from) ⊎ (to <ℤ pos 0)

not_zero : (y : ℤ) → (pos 0 <ℤ y) ⊎ (y <ℤ pos 0) → is_nonzero y ≡ true
not_zero y (inl h) = grind (arith, ints, Decides-int_eq)
not_zero y (inr h) = grind (arith, ints, Decides-int_eq)

serves : (b : Span) (y : ℤ) → (pos 0 <ℤ y) ⊎ (y <ℤ pos 0) → b.low ≤ℤ y → y ≤ℤ b.high → (y ≡ b.low) ⊎ ((y ≡ b.high) ⊎ ((y ≡ pos 1) ⊎ (y ≡ negsuc 0))) → Serves b y
serves b y n l h k = (record { nonzero = not_zero y n; within = record { least = l; most = h } }, in_four b.low b.high (pos 1) (negsuc 0) y k)

from_positive : (b : Span) (y : ℤ) → IsWithin y b → pos 0 <ℤ y → Between b y
from_positive b y w p =
    let last = serves b b.high (inl (omega (arith, ints, w.most))) (omega (arith, ints, w.least, w.most)) (omega (arith, ints)) (inr (inl refl)) in
    elim (int_le (pos 1) b.low) as (λ t. int_le (pos 1) b.low ≡ t → Between b y) [
      | true ↦ λ e. let o : pos 1 ≤ℤ b.low = grind (arith, ints) in record {
        from = b.low;
        to = b.high;
        from_serves = serves b b.low (inl (omega (arith, ints))) (omega (arith, ints)) (omega (arith, ints, w.least, w.most)) (inl refl);
        to_serves = last;
        least = w.least;
        most = w.most;
        one_sign = inl (omega (arith, ints));
      }
      | false ↦ λ e. let o : b.low <ℤ pos 1 = grind (arith, ints) in record {
        from = pos 1;
        to = b.high;
        from_serves = serves b (pos 1) (inl (omega (arith, ints))) (omega (arith, ints)) (omega (arith, ints, w.most)) (inr (inr (inl refl)));
        to_serves = last;
        least = omega (arith, ints);
        most = w.most;
        one_sign = inl (omega (arith, ints));
      }
    ] refl

from_negative : (b : Span) (y : ℤ) → IsWithin y b → y <ℤ pos 0 → Between b y
from_negative b y w p =
    let first = serves b b.low (inr (omega (arith, ints, w.least))) (omega (arith, ints)) (omega (arith, ints, w.least, w.most)) (inl refl) in
    elim (int_le b.high (negsuc 0)) as (λ t. int_le b.high (negsuc 0) ≡ t → Between b y) [
      | true ↦ λ e. let o : b.high ≤ℤ negsuc 0 = grind (arith, ints) in record {
        from = b.low;
        to = b.high;
        from_serves = first;
        to_serves = serves b b.high (inr (omega (arith, ints))) (omega (arith, ints, w.least, w.most)) (omega (arith, ints)) (inr (inl refl));
        least = w.least;
        most = w.most;
        one_sign = inr (omega (arith, ints));
      }
      | false ↦ λ e. let o : negsuc 0 <ℤ b.high = grind (arith, ints) in record {
        from = b.low;
        to = negsuc 0;
        from_serves = first;
        to_serves = serves b (negsuc 0) (inr (omega (arith, ints))) (omega (arith, ints, w.least)) (omega (arith, ints)) (inr (inr (inr refl)));
        least = w.least;
        most = omega (arith, ints);
        one_sign = inr (omega (arith, ints));
      }
    ] refl

between : (b : Span) (y : ℤ) → Divides b y → Between b y
between b y d =
    elim (int_le (pos 0) y) as (λ t. int_le (pos 0) y ≡ t → Between b y) [
      | true ↦ λ e. let n = d.nonzero in from_positive b y d.within (grind (arith, ints, Decides-int_eq))
      | false ↦ λ e. from_negative b y d.within (grind (arith, ints))
    ] refl

-- what bounds the quotients of a number by the divisors that serve bounds that by each divisor
bounds_at : (l h x : ℤ) (b : Span) (y : ℤ) (t : Between b y) → Bounds l h (int_div x t.from) → Bounds l h (int_div x t.to) → Bounds l h (int_div x y)
bounds_at l h x b y t u v = elim t.one_sign [
  | inl p ↦ between_positive l h x t.from y t.to p t.least t.most u v
  | inr p ↦ between_negative l h x t.from y t.to p t.least t.most u v
]

-- what bounds the quotients of the ends bounds all
all_between : (a b : Span) (l h : ℤ) → ((c : ℤ) → member c (end_quotients a (end_divisors b)) ≡ true → Bounds l h c) → (u : ℤ) → member u (all_quotients a b) ≡ true → Bounds l h u
all_between a b l h bound u m =
    let r = from_flat (λ y. map (λ x. int_div x y) (values a)) (filter is_nonzero (values b)) u m in
    let f = from_filter is_nonzero (values b) r.0 r.1 in
    let d : Divides b r.0 = record { nonzero = f.1; within = from_values b r.0 f.0 } in
    let t = between b r.0 d in
    let q = from_map (λ x. int_div x r.0) (values a) u r.2 in
    subst (λ w. Bounds l h w) (sym q.2) (between_ends l h a q.0 r.0 (from_values a q.0 q.1) d.nonzero
    (bounds_at l h a.low b r.0 t (bound (int_div a.low t.from) (serving_low a b t.from t.from_serves)) (bound (int_div a.low t.to) (serving_low a b t.to t.to_serves)))
    (bounds_at l h a.high b r.0 t (bound (int_div a.high t.from) (serving_high a b t.from t.from_serves)) (bound (int_div a.high t.to) (serving_high a b t.to t.to_serves))))

-- where there is a quotient, there is one of an end
some_end : (a b : Span) (u : ℤ) → member u (all_quotients a b) ≡ true → (c : ℤ) × (member c (end_quotients a (end_divisors b)) ≡ true)
some_end a b u m =
    let r = from_flat (λ y. map (λ x. int_div x y) (values a)) (filter is_nonzero (values b)) u m in
    let f = from_filter is_nonzero (values b) r.0 r.1 in
    let t = between b r.0 (record { nonzero = f.1; within = from_values b r.0 f.0 }) in
    (int_div a.low t.from, serving_low a b t.from t.from_serves)

-- the hull of a list is that of a part of it that bounds all
same_hull : (xs cs : List ℤ) → ((c : ℤ) → member c cs ≡ true → member c xs ≡ true) → ((l h : ℤ) → ((c : ℤ) → member c cs ≡ true → Bounds l h c) → (u : ℤ) → member u xs ≡ true → Bounds l h u) → ((u : ℤ) → member u xs ≡ true → (c : ℤ) × (member c cs ≡ true)) → hull_some xs ≡ hull_some cs
unfolding hull_of
same_hull [] [] part all some = refl
same_hull [] (c ∷ cs) part all some = let m = part c (member_first c cs) in cc
same_hull (x ∷ xs) [] part all some = let m = some x (member_first x xs) in let e = m.1 in cc
same_hull (x ∷ xs) (c ∷ cs) part all some =
    hull_is (x ∷ xs) (least_of c cs) (greatest_of c cs) (part (least_of c cs) (least_member c cs)) (part (greatest_of c cs) (greatest_member c cs))
    (λ u m. let b = all (least_of c cs) (greatest_of c cs) (λ d k. record { below = least_is c cs d k; above = greatest_is c cs d k }) u m in (b.below, b.above))

pub div_by_ends : (a b : Span) → a.low ≤ℤ a.high → span_div a b ≡ hull_some (end_quotients a (end_divisors b))
unfolding span_div
div_by_ends a b o = same_hull (all_quotients a b) (end_quotients a (end_divisors b)) (ends_are a b o) (all_between a b) (some_end a b)
