-- Arithmetic of intervals keeps intervals within intervals.
use Rattle.std.proofs.Common.{◌≡◌, ◌≢◌, ◌⊎◌, ◌<◌, max, Bool, true, false, cond, refl, List, [], ◌∷◌, map, ℤ, pos, ◌*ℤ◌, neg_ℤ, ◌≤ℤ◌, ◌<ℤ◌, sym, ◌∙◌, subst, arith, inl, inr}
use Rattle.std.specs.List.{filter, flat_map}
use Rattle.std.specs.Prelude.{int_le, int_div, int_rem, unsigned_abs, Option, Some, None}
use Rattle.std.specs.Ordering.{int_eq}
use Rattle.std.proofs.lemmas.Int.{ints}
use Rattle.std.proofs.lemmas.Bool.Decides.{Decides-int_eq}
use Rattle.opl_domain.specs.Span.{Span, IsWithin, IsInside, smaller, larger, point, is_point, least_of, greatest_of, hull_of, hull_some, values}
use Rattle.opl_domain.specs.Arithmetic.{is_nonzero, span_add, span_neg, span_mul, span_min, span_max, span_hull, span_abs, span_div, span_rem, is_one_quotient, wide_rem, low_rest, high_rest, greatest_rest}
use Rattle.opl_domain.specs.Family.{member}
use Rattle.opl_domain.proofs.Numbers.{smaller_tells, larger_tells, smaller_left, smaller_right, larger_left, larger_right}
use Rattle.opl_domain.proofs.Members.{member_cases, member_first, member_map, from_map, member_flat, from_flat, member_filter, from_filter, least_member, least_is, greatest_member, greatest_is, in_values, from_values}
use Rattle.opl_domain.proofs.Rows.{rem_none, rem_one, rem_more, one_quotient}
use Rattle.opl_domain.proofs.IntervalLaws.{min_is_exact, max_is_exact, hull_is_least, mul_holds, right_up, right_down, rem_is_sound, same_between, one_divisor, only_divisor, zero_point, four}
use Rattle.opl_expr.specs.Range.{verdict, flip, span_scale}

-- both ends of a lie within b
pub record In (a b : Span) : Type 0 where
  pub low : IsWithin a.low b
  pub high : IsWithin a.high b

pub to_inside : (a b : Span) → In a b → IsInside (Some a) (Some b)
to_inside a b i = (i.low, i.high)

pub of_inside : (a b : Span) → IsInside (Some a) (Some b) → In a b
of_inside a b i = record { low = i.0; high = i.1 }

pub within_in : (v : ℤ) (a b : Span) → In a b → IsWithin v a → IsWithin v b
within_in v a b i w = record { least = omega (arith, ints, i.low.least, w.least); most = omega (arith, ints, i.high.most, w.most) }

pub same_in : (v : ℤ) → In (point v) (point v)
same_in v = let w : IsWithin v (point v) = record { least = omega (arith, ints); most = omega (arith, ints) } in record { low = w; high = w }

pub add_in : (a a' b b' : Span) → In a a' → In b b' → In (span_add a b) (span_add a' b')
unfolding span_add
add_in a a' b b' p q = record {
  low = record { least = omega (arith, ints, p.low.least, q.low.least); most = omega (arith, ints, p.low.most, q.low.most) };
  high = record { least = omega (arith, ints, p.high.least, q.high.least); most = omega (arith, ints, p.high.most, q.high.most) };
}

pub neg_in : (a a' : Span) → In a a' → In (span_neg a) (span_neg a')
unfolding span_neg
neg_in a a' p = record {
  low = record { least = omega (arith, ints, p.high.most); most = omega (arith, ints, p.high.least) };
  high = record { least = omega (arith, ints, p.low.most); most = omega (arith, ints, p.low.least) };
}

pub flip_in : (a a' : Span) → In a a' → In (flip a) (flip a')
unfolding flip
flip_in a a' p = record {
  low = record { least = omega (arith, ints, p.high.most); most = omega (arith, ints, p.high.least) };
  high = record { least = omega (arith, ints, p.low.most); most = omega (arith, ints, p.low.least) };
}

pub min_in : (a a' b b' : Span) → In a a' → In b b' → In (span_min a b) (span_min a' b')
unfolding span_min
min_in a a' b b' p q = record { low = min_is_exact.holds a' b' a.low b.low p.low q.low; high = min_is_exact.holds a' b' a.high b.high p.high q.high }

pub max_in : (a a' b b' : Span) → In a a' → In b b' → In (span_max a b) (span_max a' b')
unfolding span_max
max_in a a' b b' p q = record { low = max_is_exact.holds a' b' a.low b.low p.low q.low; high = max_is_exact.holds a' b' a.high b.high p.high q.high }

pub hull_in_hull : (a a' b b' : Span) → In a a' → In b b' → In (span_hull a b) (span_hull a' b')
unfolding span_hull
hull_in_hull a a' b b' p q = record {
  low = elim (smaller_tells a.low b.low) [
    | inl t ↦ subst (λ v. IsWithin v (span_hull a' b')) (sym t.0) (hull_is_least.holds_first a' b' a.low p.low)
    | inr t ↦ subst (λ v. IsWithin v (span_hull a' b')) (sym t.0) (hull_is_least.holds_second a' b' b.low q.low)
  ];
  high = elim (larger_tells a.high b.high) [
    | inl t ↦ subst (λ v. IsWithin v (span_hull a' b')) (sym t.0) (hull_is_least.holds_second a' b' b.high q.high)
    | inr t ↦ subst (λ v. IsWithin v (span_hull a' b')) (sym t.0) (hull_is_least.holds_first a' b' a.high p.high)
  ];
}

pub in_hull_right : (a a' b' : Span) → In a b' → In a (span_hull a' b')
in_hull_right a a' b' q = record { low = hull_is_least.holds_second a' b' a.low q.low; high = hull_is_least.holds_second a' b' a.high q.high }

pub in_hull_left : (a a' b' : Span) → In a a' → In a (span_hull a' b')
in_hull_left a a' b' q = record { low = hull_is_least.holds_first a' b' a.low q.low; high = hull_is_least.holds_first a' b' a.high q.high }

-- ---- scaled intervals

pub scale_holds : (k : ℤ) (a : Span) (v : ℤ) → IsWithin v a → IsWithin (k *ℤ v) (span_scale k a)
unfolding span_scale
scale_holds k a v w = elim (int_le (pos 0) k) as (λ b. int_le (pos 0) k ≡ b → IsWithin (k *ℤ v) (record { low = smaller (k *ℤ a.low) (k *ℤ a.high); high = larger (k *ℤ a.low) (k *ℤ a.high) })) [
  | true ↦ λ e. let p : pos 0 ≤ℤ k = grind (arith, ints) in record {
    least = omega (arith, ints, smaller_left (k *ℤ a.low) (k *ℤ a.high), right_up k a.low v w.least p);
    most = omega (arith, ints, larger_right (k *ℤ a.low) (k *ℤ a.high), right_up k v a.high w.most p);
  }
  | false ↦ λ e. let p : k <ℤ pos 0 = grind (arith, ints) in record {
    least = omega (arith, ints, smaller_right (k *ℤ a.low) (k *ℤ a.high), right_down k v a.high w.most p);
    most = omega (arith, ints, larger_left (k *ℤ a.low) (k *ℤ a.high), right_down k a.low v w.least p);
  }
] refl

scale_low : (k : ℤ) (a : Span) → ((span_scale k a).low ≡ k *ℤ a.low) ⊎ ((span_scale k a).low ≡ k *ℤ a.high)
unfolding span_scale
scale_low k a = elim (smaller_tells (k *ℤ a.low) (k *ℤ a.high)) [ inl t ↦ inl t.0 | inr t ↦ inr t.0 ]

scale_high : (k : ℤ) (a : Span) → ((span_scale k a).high ≡ k *ℤ a.low) ⊎ ((span_scale k a).high ≡ k *ℤ a.high)
unfolding span_scale
scale_high k a = elim (larger_tells (k *ℤ a.low) (k *ℤ a.high)) [ inl t ↦ inr t.0 | inr t ↦ inl t.0 ]

pub scale_in : (k : ℤ) (a a' : Span) → In a a' → In (span_scale k a) (span_scale k a')
scale_in k a a' p = record {
  low = elim (scale_low k a) [
    | inl e ↦ subst (λ v. IsWithin v (span_scale k a')) (sym e) (scale_holds k a' a.low p.low)
    | inr e ↦ subst (λ v. IsWithin v (span_scale k a')) (sym e) (scale_holds k a' a.high p.high)
  ];
  high = elim (scale_high k a) [
    | inl e ↦ subst (λ v. IsWithin v (span_scale k a')) (sym e) (scale_holds k a' a.low p.low)
    | inr e ↦ subst (λ v. IsWithin v (span_scale k a')) (sym e) (scale_holds k a' a.high p.high)
  ];
}

-- ---- products

product_in : (a a' b b' : Span) → In a a' → In b b' → (v : ℤ) → member v ((a.low *ℤ b.low) ∷ four a b) ≡ true → IsWithin v (span_mul a' b')
product_in a a' b b' p q v m = elim (member_cases v (a.low *ℤ b.low) (four a b) m) [
  | inl e ↦ subst (λ u. IsWithin u (span_mul a' b')) (sym e) (mul_holds a' b' a.low b.low p.low q.low)
  | inr m1 ↦ elim (member_cases v (a.low *ℤ b.high) ((a.high *ℤ b.low) ∷ (a.high *ℤ b.high) ∷ []) m1) [
    | inl e ↦ subst (λ u. IsWithin u (span_mul a' b')) (sym e) (mul_holds a' b' a.low b.high p.low q.high)
    | inr m2 ↦ elim (member_cases v (a.high *ℤ b.low) ((a.high *ℤ b.high) ∷ []) m2) [
      | inl e ↦ subst (λ u. IsWithin u (span_mul a' b')) (sym e) (mul_holds a' b' a.high b.low p.high q.low)
      | inr m3 ↦ elim (member_cases v (a.high *ℤ b.high) [] m3) [
        | inl e ↦ subst (λ u. IsWithin u (span_mul a' b')) (sym e) (mul_holds a' b' a.high b.high p.high q.high)
        | inr f ↦ cc
      ]
    ]
  ]
]

pub mul_in : (a a' b b' : Span) → In a a' → In b b' → In (span_mul a b) (span_mul a' b')
unfolding span_mul hull_of
mul_in a a' b b' p q = record {
  low = product_in a a' b b' p q (least_of (a.low *ℤ b.low) (four a b)) (least_member (a.low *ℤ b.low) (four a b));
  high = product_in a a' b b' p q (greatest_of (a.low *ℤ b.low) (four a b)) (greatest_member (a.low *ℤ b.low) (four a b));
}

-- ---- hulls of lists, absolute values and quotients

pub hull_part : (xs ys : List ℤ) → ((v : ℤ) → member v xs ≡ true → member v ys ≡ true) → IsInside (hull_some xs) (hull_some ys)
unfolding hull_of
hull_part [] ys part = tt
hull_part (x ∷ xs) [] part = let m = part x (member_first x xs) in cc
hull_part (x ∷ xs) (y ∷ ys) part =
    let l = part (least_of x xs) (least_member x xs) in
    let h = part (greatest_of x xs) (greatest_member x xs) in
    (record { least = least_is y ys (least_of x xs) l; most = greatest_is y ys (least_of x xs) l }, record { least = least_is y ys (greatest_of x xs) h; most = greatest_is y ys (greatest_of x xs) h })

pub values_part : (a a' : Span) → In a a' → (v : ℤ) → member v (values a) ≡ true → member v (values a') ≡ true
values_part a a' p v m = in_values a' v (within_in v a a' p (from_values a v m))

pub abs_in : (a a' : Span) → In a a' → IsInside (span_abs a) (span_abs a')
unfolding span_abs
abs_in a a' p = hull_part (map (λ v. pos (unsigned_abs v)) (values a)) (map (λ v. pos (unsigned_abs v)) (values a'))
    (λ u m. let r = from_map (λ v. pos (unsigned_abs v)) (values a) u m in
    subst (λ w. member w (map (λ v. pos (unsigned_abs v)) (values a')) ≡ true) (sym r.2) (member_map (λ v. pos (unsigned_abs v)) (values a') r.0 (values_part a a' p r.0 r.1)))

pub div_in : (a a' b b' : Span) → In a a' → In b b' → IsInside (span_div a b) (span_div a' b')
unfolding span_div
div_in a a' b b' p q = hull_part (flat_map (λ y. map (λ x. int_div x y) (values a)) (filter is_nonzero (values b))) (flat_map (λ y. map (λ x. int_div x y) (values a')) (filter is_nonzero (values b')))
    (λ u m.
    let r = from_flat (λ y. map (λ x. int_div x y) (values a)) (filter is_nonzero (values b)) u m in
    let f = from_filter is_nonzero (values b) r.0 r.1 in
    let s = from_map (λ x. int_div x r.0) (values a) u r.2 in
    member_flat (λ y. map (λ x. int_div x y) (values a')) (filter is_nonzero (values b')) r.0 u
    (member_filter is_nonzero (values b') r.0 (values_part b b' q r.0 f.0) f.1)
    (subst (λ w. member w (map (λ x. int_div x r.0) (values a')) ≡ true) (sym s.2) (member_map (λ x. int_div x r.0) (values a') s.0 (values_part a a' p s.0 s.1))))

-- ---- remainders

pub both_inside : (l h : ℤ) (r : Option Span) → IsInside (Some (point l)) r → IsInside (Some (point h)) r → IsInside (Some (record { low = l; high = h })) r
both_inside l h None p q = p
both_inside l h (Some r) p q = (p.0, q.0)

magnitude_some : (b : Span) → is_point (pos 0) b ≡ false → 0 < max (unsigned_abs b.low) (unsigned_abs b.high)
magnitude_some b e = grind (arith, ints, Decides-int_eq)

rest_sign : (b : Span) → is_point (pos 0) b ≡ false → pos 0 ≤ℤ greatest_rest b
unfolding greatest_rest
rest_sign b e = omega (arith, ints, magnitude_some b e)

rest_grows : (b b' : Span) → In b b' → greatest_rest b ≤ℤ greatest_rest b'
unfolding greatest_rest
rest_grows b b' q = omega (arith, ints, q.low.least, q.low.most, q.high.least, q.high.most)

low_rest_most : (lo m : ℤ) → pos 0 ≤ℤ m → low_rest lo m ≤ℤ pos 0
unfolding low_rest
low_rest_most lo m h = elim (int_le (pos 0) lo) as (λ b. int_le (pos 0) lo ≡ b → cond b (pos 0) (larger lo (neg_ℤ m)) ≤ℤ pos 0) [
  | true ↦ λ e. omega (arith, ints)
  | false ↦ λ e. let o : lo <ℤ pos 0 = grind (arith, ints) in elim (larger_tells lo (neg_ℤ m)) [ inl t ↦ omega (arith, ints, t.0) | inr t ↦ omega (arith, ints, t.0) ]
] refl

high_rest_least : (hi m : ℤ) → pos 0 ≤ℤ m → pos 0 ≤ℤ high_rest hi m
unfolding high_rest
high_rest_least hi m h = elim (int_le hi (pos 0)) as (λ b. int_le hi (pos 0) ≡ b → pos 0 ≤ℤ cond b (pos 0) (smaller hi m)) [
  | true ↦ λ e. omega (arith, ints)
  | false ↦ λ e. let o : pos 0 <ℤ hi = grind (arith, ints) in elim (smaller_tells hi m) [ inl t ↦ omega (arith, ints, t.0) | inr t ↦ omega (arith, ints, t.0) ]
] refl

low_rest_falls : (lo lo' m m' : ℤ) → lo' ≤ℤ lo → m ≤ℤ m' → pos 0 ≤ℤ m' → low_rest lo' m' ≤ℤ low_rest lo m
unfolding low_rest
low_rest_falls lo lo' m m' h k s = elim (int_le (pos 0) lo) as (λ b. int_le (pos 0) lo ≡ b → low_rest lo' m' ≤ℤ cond b (pos 0) (larger lo (neg_ℤ m))) [
  | true ↦ λ e. low_rest_most lo' m' s
  | false ↦ λ e. let o : lo <ℤ pos 0 = grind (arith, ints) in
      elim (int_le (pos 0) lo') as (λ b. int_le (pos 0) lo' ≡ b → cond b (pos 0) (larger lo' (neg_ℤ m')) ≤ℤ larger lo (neg_ℤ m)) [
        | true ↦ λ f. let u : pos 0 ≤ℤ lo' = grind (arith, ints) in absurd (omega (arith, ints))
        | false ↦ λ f. elim (larger_tells lo' (neg_ℤ m')) [ inl t ↦ omega (arith, ints, t.0, larger_right lo (neg_ℤ m)) | inr t ↦ omega (arith, ints, t.0, larger_left lo (neg_ℤ m)) ]
      ] refl
] refl

high_rest_rises : (hi hi' m m' : ℤ) → hi ≤ℤ hi' → m ≤ℤ m' → pos 0 ≤ℤ m' → high_rest hi m ≤ℤ high_rest hi' m'
unfolding high_rest
high_rest_rises hi hi' m m' h k s = elim (int_le hi (pos 0)) as (λ b. int_le hi (pos 0) ≡ b → cond b (pos 0) (smaller hi m) ≤ℤ high_rest hi' m') [
  | true ↦ λ e. high_rest_least hi' m' s
  | false ↦ λ e. let o : pos 0 <ℤ hi = grind (arith, ints) in
      elim (int_le hi' (pos 0)) as (λ b. int_le hi' (pos 0) ≡ b → smaller hi m ≤ℤ cond b (pos 0) (smaller hi' m')) [
        | true ↦ λ f. let u : hi' ≤ℤ pos 0 = grind (arith, ints) in absurd (omega (arith, ints))
        | false ↦ λ f. elim (smaller_tells hi' m') [ inl t ↦ omega (arith, ints, t.0, smaller_left hi m) | inr t ↦ omega (arith, ints, t.0, smaller_right hi m) ]
      ] refl
] refl

wide_in : (a a' b b' : Span) → In a a' → In b b' → is_point (pos 0) b ≡ false → In (wide_rem a b) (wide_rem a' b')
wide_in a a' b b' p q e =
    let m = rest_sign b e in
    let g = rest_grows b b' q in
    let m' : pos 0 ≤ℤ greatest_rest b' = omega (arith, ints) in
    let low = low_rest_falls a.low a'.low (greatest_rest b) (greatest_rest b') p.low.least g m' in
    let high = high_rest_rises a.high a'.high (greatest_rest b) (greatest_rest b') p.high.most g m' in
    let low0 = low_rest_most a.low (greatest_rest b) m in
    let high0 = high_rest_least a.high (greatest_rest b) m in
    let low1 = low_rest_most a'.low (greatest_rest b') m' in
    let high1 = high_rest_least a'.high (greatest_rest b') m' in
    record { low = record { least = low; most = omega (arith, ints) }; high = record { least = omega (arith, ints); most = high } }

point_in_zero : (b b' : Span) → In b b' → is_point (pos 0) b' ≡ true → is_point (pos 0) b ≡ true
point_in_zero b b' q e = let z = zero_point b' e in
    let l = subst (λ s. IsWithin b.low s) z q.low in let h = subst (λ s. IsWithin b.high s) z q.high in
    let le : b.low ≡ pos 0 = omega (arith, ints, l.least, l.most) in let he : b.high ≡ pos 0 = omega (arith, ints, h.least, h.most) in
    rw ((Decides-int_eq b.low (pos 0)).1 le, (Decides-int_eq b.high (pos 0)).1 he) refl

-- where the wider intervals have one divisor and one quotient, so have the narrower
narrow : (a a' b b' : Span) → In a a' → In b b' → is_point (pos 0) b ≡ false → is_one_quotient a' b' ≡ true → is_one_quotient a b ≡ true
narrow a a' b b' p q e o =
    let d = one_divisor a' b' o in
    let low : b'.low ≡ b.low = only_divisor b' b.low q.low d in
    let high : b'.low ≡ b.high = only_divisor b' b.high q.high d in
    let single : b.low ≡ b.high = omega (arith, ints, low, high) in
    let n : b.low ≢ pos 0 = λ z. let t = point_zero b z (omega (arith, ints, z, single)) in cc in
    let s = subst (λ z. int_div a'.low z ≡ int_div a'.high z) low (one_quotient a' b' o) in
    let l = same_between a'.low a.low a'.high b.low n p.low.least p.low.most s in
    let h = same_between a'.low a.high a'.high b.low n p.high.least p.high.most s in
    rw ((Decides-int_eq b.low b.high).1 single) ((Decides-int_eq (int_div a.low b.low) (int_div a.high b.low)).1 (sym l.0 ∙ h.0))
  where
    point_zero : (b : Span) → b.low ≡ pos 0 → b.high ≡ pos 0 → is_point (pos 0) b ≡ true
    point_zero b l h = rw ((Decides-int_eq b.low (pos 0)).1 l, (Decides-int_eq b.high (pos 0)).1 h) refl

pub rem_in : (a a' b b' : Span) → In a a' → In b b' → IsInside (span_rem a b) (span_rem a' b')
rem_in a a' b b' p q =
    elim (is_point (pos 0) b) as (λ t. is_point (pos 0) b ≡ t → IsInside (span_rem a b) (span_rem a' b')) [
      | true ↦ λ e. subst (λ r. IsInside r (span_rem a' b')) (rem_none a b e) tt
      | false ↦ λ e. elim (is_one_quotient a b) as (λ t. is_one_quotient a b ≡ t → IsInside (span_rem a b) (span_rem a' b')) [
        | true ↦ λ o.
            let n : b.low ≢ pos 0 = λ z. let s = one_divisor a b o in let t : is_point (pos 0) b ≡ true = rw ((Decides-int_eq b.low (pos 0)).1 z, (Decides-int_eq b.high (pos 0)).1 (sym s ∙ z)) refl in cc in
            subst (λ r. IsInside r (span_rem a' b')) (rem_one a b e o)
            (both_inside (int_rem a.low b.low) (int_rem a.high b.low) (span_rem a' b') (rem_is_sound.holds a' b' a.low b.low p.low q.low n) (rem_is_sound.holds a' b' a.high b.low p.high q.low n))
        | false ↦ λ o.
            elim (is_point (pos 0) b') as (λ t. is_point (pos 0) b' ≡ t → IsInside (span_rem a b) (span_rem a' b')) [
              | true ↦ λ e'. let t = point_in_zero b b' q e' in cc
              | false ↦ λ e'. elim (is_one_quotient a' b') as (λ t. is_one_quotient a' b' ≡ t → IsInside (span_rem a b) (span_rem a' b')) [
                | true ↦ λ o'. let t = narrow a a' b b' p q e o' in cc
                | false ↦ λ o'. subst (λ r. IsInside r (span_rem a' b')) (rem_more a b e o) (subst (λ r. IsInside (Some (wide_rem a b)) r) (rem_more a' b' e' o') (to_inside (wide_rem a b) (wide_rem a' b') (wide_in a a' b b' p q e)))
              ] refl
            ] refl
      ] refl
    ] refl

-- ---- verdicts

-- what the narrower verdict must keep of the wider, and the wider of the narrower
pub record Keeps (s n s' n' : Bool) : Type 0 where
  pub sure : s' ≡ true → s ≡ true
  pub never : n' ≡ true → n ≡ true
  pub apart : s' ≡ true → n ≡ false
  pub apart' : s ≡ true → n' ≡ false

pub verdict_in : (s n s' n' : Bool) → Keeps s n s' n' → In (verdict s n) (verdict s' n')
verdict_in true true true n' k = let e = k.apart refl in cc
verdict_in true true false true k = let e = k.apart' refl in cc
verdict_in true true false false k = record { low = record { least = omega (arith, ints); most = omega (arith, ints) }; high = record { least = omega (arith, ints); most = omega (arith, ints) } }
verdict_in true false true true k = let e = k.never refl in cc
verdict_in true false true false k = record { low = record { least = omega (arith, ints); most = omega (arith, ints) }; high = record { least = omega (arith, ints); most = omega (arith, ints) } }
verdict_in true false false true k = let e = k.never refl in cc
verdict_in true false false false k = record { low = record { least = omega (arith, ints); most = omega (arith, ints) }; high = record { least = omega (arith, ints); most = omega (arith, ints) } }
verdict_in false n true n' k = let e = k.sure refl in cc
verdict_in false true false true k = record { low = record { least = omega (arith, ints); most = omega (arith, ints) }; high = record { least = omega (arith, ints); most = omega (arith, ints) } }
verdict_in false true false false k = record { low = record { least = omega (arith, ints); most = omega (arith, ints) }; high = record { least = omega (arith, ints); most = omega (arith, ints) } }
verdict_in false false false true k = let e = k.never refl in cc
verdict_in false false false false k = record { low = record { least = omega (arith, ints); most = omega (arith, ints) }; high = record { least = omega (arith, ints); most = omega (arith, ints) } }

-- what lies in one number is that number
pub is_point_in : (k : ℤ) (a a' : Span) → In a a' → is_point k a' ≡ true → is_point k a ≡ true
is_point_in k a a' p e =
    let r = point_ends k a' e in
    let l : a.low ≡ k = omega (arith, ints, r.0, r.1, p.low.least, p.low.most) in
    let h : a.high ≡ k = omega (arith, ints, r.0, r.1, p.high.least, p.high.most) in
    rw ((Decides-int_eq a.low k).1 l, (Decides-int_eq a.high k).1 h) refl
  where
    point_ends : (k : ℤ) (a : Span) → is_point k a ≡ true → (a.low ≡ k) × (a.high ≡ k)
    point_ends k a e = (low_end k a (int_eq a.low k) refl e, high_end k a (int_eq a.low k) e)
      where
        low_end : (k : ℤ) (a : Span) (b : Bool) → int_eq a.low k ≡ b → cond b (int_eq a.high k) false ≡ true → a.low ≡ k
        low_end k a true e f = (Decides-int_eq a.low k).0 e
        low_end k a false e f = cc

        high_end : (k : ℤ) (a : Span) (b : Bool) → cond b (int_eq a.high k) false ≡ true → a.high ≡ k
        high_end k a true f = (Decides-int_eq a.high k).0 f
        high_end k a false f = cc

pub not_two_points : (a : Span) → is_point (pos 0) a ≡ true → is_point (pos 1) a ≡ false
not_two_points a e = elim (int_eq a.low (pos 0)) as (λ b. int_eq a.low (pos 0) ≡ b → cond b (int_eq a.high (pos 0)) false ≡ true → is_point (pos 1) a ≡ false) [
  | true ↦ λ f g. let z : a.low ≡ pos 0 = (Decides-int_eq a.low (pos 0)).0 f in rw z refl
  | false ↦ λ f g. cc
] refl e
