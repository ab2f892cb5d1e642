-- The arithmetic of intervals is exact.
use Rattle.std.proofs.Common.{◌≡◌, ◌≢◌, ◌↔◌, ◌⊎◌, ℕ, zero, suc, ◌≤◌, ◌<◌, true, false, cond, ◌&&◌, refl, List, [], ◌∷◌, map, ℤ, pos, negsuc, ◌+ℤ◌, ◌*ℤ◌, neg_ℤ, ◌≤ℤ◌, ◌<ℤ◌, sym, subst, arith, inl, inr}
use Rattle.std.specs.List.{filter, flat_map}
use Rattle.std.specs.Prelude.{int_le, int_div, int_rem, unsigned_abs, Some, None}
use Rattle.std.specs.Ordering.{int_eq}
use Rattle.std.proofs.Math.Nat.{mul-le-mul_left, mul-le-mul_right, mod-le}
use Rattle.std.proofs.lemmas.Int.{ints, rem_below}
use Rattle.std.proofs.lemmas.Bool.Decides.{Decides-int_eq}
use Rattle.opl_domain.specs.Span.{Span, IsWithin, IsInside, smaller, larger, point, is_point, least_of, greatest_of, hull_of, hull_some, values}
use Rattle.opl_domain.specs.Arithmetic.{is_nonzero, span_add, span_neg, span_mul, span_min, span_max, span_hull, span_abs, span_div, span_rem, is_one_quotient, wide_rem, low_rest, high_rest, greatest_rest}
use Rattle.opl_domain.specs.Family.{member}
use Rattle.opl_domain.specs.Laws.{IsOrdered, IsImage, IsResult, AddIsExact, NegIsExact, MulIsExact, MinIsExact, MaxIsExact, HullIsLeast, AbsIsExact, IsQuotient, DivIsExact, RemIsSound}
use Rattle.opl_domain.proofs.Numbers.{span_is, smaller_tells, larger_tells, smaller_left, smaller_right, larger_left, larger_right}
use Rattle.opl_domain.proofs.Members.{member_cases, member_first, member_later, member_map, from_map, member_flat, from_flat, member_filter, from_filter, least_member, least_is, greatest_member, greatest_is, in_values, from_values}
use Rattle.opl_domain.proofs.Quotients.{Bounds, rises, falls}
use Rattle.opl_domain.proofs.Rows.{rem_in_order, one_quotient, rem_none, rem_one, rem_more}

pub add_is_exact : AddIsExact
unfolding span_add
add_is_exact = record {
  holds = λ a b x y p q. record { least = omega (arith, ints, p.least, q.least); most = omega (arith, ints, p.most, q.most) };
  least = λ a b p q. record { first = a.low; second = b.low; first_within = record { least = omega (arith, ints); most = p }; second_within = record { least = omega (arith, ints); most = q }; gives = refl };
  most = λ a b p q. record { first = a.high; second = b.high; first_within = record { least = p; most = omega (arith, ints) }; second_within = record { least = q; most = omega (arith, ints) }; gives = refl };
}

pub neg_is_exact : NegIsExact
unfolding span_neg
neg_is_exact = record {
  holds = λ a x p. record { least = omega (arith, ints, p.most); most = omega (arith, ints, p.least) };
  least = λ a p. record { number = a.high; within = record { least = p; most = omega (arith, ints) }; gives = refl };
  most = λ a p. record { number = a.low; within = record { least = omega (arith, ints); most = p }; gives = refl };
}

pub min_is_exact : MinIsExact
unfolding span_min
min_is_exact = record {
  holds = λ a b x y p q. elim (smaller_tells x y) [
    | inl t ↦ record { least = omega (arith, ints, t.0, p.least, smaller_left a.low b.low); most = elim (smaller_tells a.high b.high) [ inl u ↦ omega (arith, ints, t.0, u.0, p.most) | inr u ↦ omega (arith, ints, t.0, t.1, u.0, q.most) ] }
    | inr t ↦ record { least = omega (arith, ints, t.0, q.least, smaller_right a.low b.low); most = elim (smaller_tells a.high b.high) [ inl u ↦ omega (arith, ints, t.0, t.1, u.0, p.most) | inr u ↦ omega (arith, ints, t.0, u.0, q.most) ] }
  ];
  least = λ a b p q. record { first = a.low; second = b.low; first_within = record { least = omega (arith, ints); most = p }; second_within = record { least = omega (arith, ints); most = q }; gives = refl };
  most = λ a b p q. record { first = a.high; second = b.high; first_within = record { least = p; most = omega (arith, ints) }; second_within = record { least = q; most = omega (arith, ints) }; gives = refl };
}

pub max_is_exact : MaxIsExact
unfolding span_max
max_is_exact = record {
  holds = λ a b x y p q. elim (larger_tells x y) [
    | inl t ↦ record { least = elim (larger_tells a.low b.low) [ inl u ↦ omega (arith, ints, t.0, u.0, q.least) | inr u ↦ omega (arith, ints, t.0, t.1, u.0, p.least) ]; most = omega (arith, ints, t.0, q.most, larger_right a.high b.high) }
    | inr t ↦ record { least = elim (larger_tells a.low b.low) [ inl u ↦ omega (arith, ints, t.0, t.1, u.0, q.least) | inr u ↦ omega (arith, ints, t.0, u.0, p.least) ]; most = omega (arith, ints, t.0, p.most, larger_left a.high b.high) }
  ];
  least = λ a b p q. record { first = a.low; second = b.low; first_within = record { least = omega (arith, ints); most = p }; second_within = record { least = omega (arith, ints); most = q }; gives = refl };
  most = λ a b p q. record { first = a.high; second = b.high; first_within = record { least = p; most = omega (arith, ints) }; second_within = record { least = q; most = omega (arith, ints) }; gives = refl };
}

hull_low : (a b : Span) → ((span_hull a b).low ≡ a.low) ⊎ ((span_hull a b).low ≡ b.low)
unfolding span_hull
hull_low a b = elim (smaller_tells a.low b.low) [ inl t ↦ inl t.0 | inr t ↦ inr t.0 ]

hull_high : (a b : Span) → ((span_hull a b).high ≡ a.high) ⊎ ((span_hull a b).high ≡ b.high)
unfolding span_hull
hull_high a b = elim (larger_tells a.high b.high) [ inl t ↦ inr t.0 | inr t ↦ inl t.0 ]

pub hull_is_least : HullIsLeast
unfolding span_hull
hull_is_least = record {
  holds_first = λ a b x p. record { least = omega (arith, ints, p.least, smaller_left a.low b.low); most = omega (arith, ints, p.most, larger_left a.high b.high) };
  holds_second = λ a b x p. record { least = omega (arith, ints, p.least, smaller_right a.low b.low); most = omega (arith, ints, p.most, larger_right a.high b.high) };
  least = hull_low;
  most = hull_high;
}

-- ---- products

pub left_up : (x u y : ℤ) → x ≤ℤ u → pos 0 ≤ℤ y → (x *ℤ y) ≤ℤ (u *ℤ y)
left_up (pos a) (pos b) (pos n) h p = let k : a ≤ b = omega (arith, ints) in omega (arith, ints, mul-le-mul_right n k)
left_up (pos a) (negsuc b) (pos n) h p = absurd (omega (arith, ints))
left_up (negsuc a) (pos b) (pos n) h p = omega (arith, ints)
left_up (negsuc a) (negsuc b) (pos n) h p = let k : suc b ≤ suc a = omega (arith, ints) in omega (arith, ints, mul-le-mul_right n k)
left_up x u (negsuc n) h p = absurd (omega (arith, ints))

pub left_down : (x u y : ℤ) → x ≤ℤ u → y <ℤ pos 0 → (u *ℤ y) ≤ℤ (x *ℤ y)
left_down (pos a) (pos b) (negsuc n) h p = let k : a ≤ b = omega (arith, ints) in omega (arith, ints, mul-le-mul_right (suc n) k)
left_down (pos a) (negsuc b) (negsuc n) h p = absurd (omega (arith, ints))
left_down (negsuc a) (pos b) (negsuc n) h p = omega (arith, ints)
left_down (negsuc a) (negsuc b) (negsuc n) h p = let k : suc b ≤ suc a = omega (arith, ints) in omega (arith, ints, mul-le-mul_right (suc n) k)
left_down x u (pos n) h p = absurd (omega (arith, ints))

pub right_up : (x y z : ℤ) → y ≤ℤ z → pos 0 ≤ℤ x → (x *ℤ y) ≤ℤ (x *ℤ z)
right_up (pos n) (pos a) (pos b) h p = let k : a ≤ b = omega (arith, ints) in omega (arith, ints, mul-le-mul_left n k)
right_up (pos n) (pos a) (negsuc b) h p = absurd (omega (arith, ints))
right_up (pos n) (negsuc a) (pos b) h p = omega (arith, ints)
right_up (pos n) (negsuc a) (negsuc b) h p = let k : suc b ≤ suc a = omega (arith, ints) in omega (arith, ints, mul-le-mul_left n k)
right_up (negsuc n) y z h p = absurd (omega (arith, ints))

pub right_down : (x y z : ℤ) → y ≤ℤ z → x <ℤ pos 0 → (x *ℤ z) ≤ℤ (x *ℤ y)
right_down (negsuc n) (pos a) (pos b) h p = let k : a ≤ b = omega (arith, ints) in omega (arith, ints, mul-le-mul_left (suc n) k)
right_down (negsuc n) (pos a) (negsuc b) h p = absurd (omega (arith, ints))
right_down (negsuc n) (negsuc a) (pos b) h p = omega (arith, ints)
right_down (negsuc n) (negsuc a) (negsuc b) h p = let k : suc b ≤ suc a = omega (arith, ints) in omega (arith, ints, mul-le-mul_left (suc n) k)
right_down (pos n) y z h p = absurd (omega (arith, ints))

left_between : (l h : ℤ) (a : Span) (x y : ℤ) → IsWithin x a → Bounds l h (a.low *ℤ y) → Bounds l h (a.high *ℤ y) → Bounds l h (x *ℤ y)
left_between l h a x y w u v =
    elim (int_le (pos 0) y) as (λ b. int_le (pos 0) y ≡ b → Bounds l h (x *ℤ y)) [
      | true ↦ λ e. let p : pos 0 ≤ℤ y = grind (arith, ints) in
          record { below = omega (arith, ints, u.below, left_up a.low x y w.least p); above = omega (arith, ints, v.above, left_up x a.high y w.most p) }
      | false ↦ λ e. let p : y <ℤ pos 0 = grind (arith, ints) in
          record { below = omega (arith, ints, v.below, left_down x a.high y w.most p); above = omega (arith, ints, u.above, left_down a.low x y w.least p) }
    ] refl

right_between : (l h : ℤ) (b : Span) (x y : ℤ) → IsWithin y b → Bounds l h (x *ℤ b.low) → Bounds l h (x *ℤ b.high) → Bounds l h (x *ℤ y)
right_between l h b x y w u v =
    elim (int_le (pos 0) x) as (λ t. int_le (pos 0) x ≡ t → Bounds l h (x *ℤ y)) [
      | true ↦ λ e. let p : pos 0 ≤ℤ x = grind (arith, ints) in
          record { below = omega (arith, ints, u.below, right_up x b.low y w.least p); above = omega (arith, ints, v.above, right_up x y b.high w.most p) }
      | false ↦ λ e. let p : x <ℤ pos 0 = grind (arith, ints) in
          record { below = omega (arith, ints, v.below, right_down x y b.high w.most p); above = omega (arith, ints, u.above, right_down x b.low y w.least p) }
    ] refl

abbrev pub four : Span → Span → List ℤ
four a b = (a.low *ℤ b.high) ∷ (a.high *ℤ b.low) ∷ (a.high *ℤ b.high) ∷ []

pub mul_holds : (a b : Span) (x y : ℤ) → IsWithin x a → IsWithin y b → IsWithin (x *ℤ y) (span_mul a b)
unfolding span_mul hull_of
mul_holds a b x y p q =
    let l = least_of (a.low *ℤ b.low) (four a b) in
    let h = greatest_of (a.low *ℤ b.low) (four a b) in
    let bound : (v : ℤ) → member v ((a.low *ℤ b.low) ∷ four a b) ≡ true → Bounds l h v =
    λ v m. record { below = least_is (a.low *ℤ b.low) (four a b) v m; above = greatest_is (a.low *ℤ b.low) (four a b) v m } in
    let low_low = bound (a.low *ℤ b.low) (member_first (a.low *ℤ b.low) (four a b)) in
    let low_high = bound (a.low *ℤ b.high) (member_later (a.low *ℤ b.high) (a.low *ℤ b.low) (four a b) (member_first (a.low *ℤ b.high) ((a.high *ℤ b.low) ∷ (a.high *ℤ b.high) ∷ []))) in
    let high_low = bound (a.high *ℤ b.low) (member_later (a.high *ℤ b.low) (a.low *ℤ b.low) (four a b) (member_later (a.high *ℤ b.low) (a.low *ℤ b.high) ((a.high *ℤ b.low) ∷ (a.high *ℤ b.high) ∷ []) (member_first (a.high *ℤ b.low) ((a.high *ℤ b.high) ∷ [])))) in
    let high_high = bound (a.high *ℤ b.high) (member_later (a.high *ℤ b.high) (a.low *ℤ b.low) (four a b) (member_later (a.high *ℤ b.high) (a.low *ℤ b.high) ((a.high *ℤ b.low) ∷ (a.high *ℤ b.high) ∷ []) (member_later (a.high *ℤ b.high) (a.high *ℤ b.low) ((a.high *ℤ b.high) ∷ []) (member_first (a.high *ℤ b.high) [])))) in
    let r = left_between l h a x y p (right_between l h b a.low y q low_low low_high) (right_between l h b a.high y q high_low high_high) in
    record { least = r.below; most = r.above }

-- a number of the list of four products is a product of ends
product_of : (a b : Span) → IsOrdered a → IsOrdered b → (v : ℤ) → member v ((a.low *ℤ b.low) ∷ four a b) ≡ true → IsResult ◌*ℤ◌ a b v
product_of a b p q v m =
    let al : IsWithin a.low a = record { least = omega (arith, ints); most = p } in
    let ah : IsWithin a.high a = record { least = p; most = omega (arith, ints) } in
    let bl : IsWithin b.low b = record { least = omega (arith, ints); most = q } in
    let bh : IsWithin b.high b = record { least = q; most = omega (arith, ints) } in
    elim (member_cases v (a.low *ℤ b.low) (four a b) m) [
      | inl e ↦ record { first = a.low; second = b.low; first_within = al; second_within = bl; gives = sym e }
      | inr m1 ↦ elim (member_cases v (a.low *ℤ b.high) ((a.high *ℤ b.low) ∷ (a.high *ℤ b.high) ∷ []) m1) [
        | inl e ↦ record { first = a.low; second = b.high; first_within = al; second_within = bh; gives = sym e }
        | inr m2 ↦ elim (member_cases v (a.high *ℤ b.low) ((a.high *ℤ b.high) ∷ []) m2) [
          | inl e ↦ record { first = a.high; second = b.low; first_within = ah; second_within = bl; gives = sym e }
          | inr m3 ↦ elim (member_cases v (a.high *ℤ b.high) [] m3) [
            | inl e ↦ record { first = a.high; second = b.high; first_within = ah; second_within = bh; gives = sym e }
            | inr f ↦ cc
          ]
        ]
      ]
    ]

pub mul_is_exact : MulIsExact
unfolding span_mul hull_of
mul_is_exact = record {
  holds = mul_holds;
  least = λ a b p q. product_of a b p q (least_of (a.low *ℤ b.low) (four a b)) (least_member (a.low *ℤ b.low) (four a b));
  most = λ a b p q. product_of a b p q (greatest_of (a.low *ℤ b.low) (four a b)) (greatest_member (a.low *ℤ b.low) (four a b));
}

-- ---- hulls of lists

pub some_holds : (xs : List ℤ) (v : ℤ) → member v xs ≡ true → IsInside (Some (point v)) (hull_some xs)
unfolding hull_of
some_holds [] v m = cc
some_holds (x ∷ xs) v m =
    let w : IsWithin v (record { low = least_of x xs; high = greatest_of x xs }) = record { least = least_is x xs v m; most = greatest_is x xs v m } in (w, w)

pub some_low : (xs : List ℤ) (r : Span) → hull_some xs ≡ Some r → member r.low xs ≡ true
unfolding hull_of
some_low [] r e = cc
some_low (x ∷ xs) r e = let k : least_of x xs ≡ r.low = cc in subst (λ v. member v (x ∷ xs) ≡ true) k (least_member x xs)

pub some_high : (xs : List ℤ) (r : Span) → hull_some xs ≡ Some r → member r.high xs ≡ true
unfolding hull_of
some_high [] r e = cc
some_high (x ∷ xs) r e = let k : greatest_of x xs ≡ r.high = cc in subst (λ v. member v (x ∷ xs) ≡ true) k (greatest_member x xs)

-- ---- absolute values

abs_image : (a : Span) (v : ℤ) → member v (map (λ x. pos (unsigned_abs x)) (values a)) ≡ true → IsImage (λ x. pos (unsigned_abs x)) a v
abs_image a v m = let r = from_map (λ x. pos (unsigned_abs x)) (values a) v m in record { number = r.0; within = from_values a r.0 r.1; gives = sym r.2 }

pub abs_is_exact : AbsIsExact
unfolding span_abs
abs_is_exact = record {
  holds = λ a x p. some_holds (map (λ v. pos (unsigned_abs v)) (values a)) (pos (unsigned_abs x)) (member_map (λ v. pos (unsigned_abs v)) (values a) x (in_values a x p));
  least = λ a r e. abs_image a r.low (some_low (map (λ v. pos (unsigned_abs v)) (values a)) r e);
  most = λ a r e. abs_image a r.high (some_high (map (λ v. pos (unsigned_abs v)) (values a)) r e);
}

-- ---- quotients

abbrev quotients : Span → Span → List ℤ
quotients a b = flat_map (λ y. map (λ x. int_div x y) (values a)) (filter is_nonzero (values b))

nonzero_from : (y : ℤ) → is_nonzero y ≡ true → y ≢ pos 0
nonzero_from y e = λ z. grind (arith, Decides-int_eq)

pub to_nonzero : (y : ℤ) → y ≢ pos 0 → is_nonzero y ≡ true
to_nonzero y n = elim (int_eq y (pos 0)) as (λ b. int_eq y (pos 0) ≡ b → cond b false true ≡ true) [
  | true ↦ λ e. absurd (n ((Decides-int_eq y (pos 0)).0 e))
  | false ↦ λ e. refl
] refl

pub quotient_in : (a b : Span) (x y : ℤ) → IsWithin x a → IsWithin y b → y ≢ pos 0 → member (int_div x y) (quotients a b) ≡ true
quotient_in a b x y p q n =
    member_flat (λ z. map (λ v. int_div v z) (values a)) (filter is_nonzero (values b)) y (int_div x y)
    (member_filter is_nonzero (values b) y (in_values b y q) (to_nonzero y n)) (member_map (λ v. int_div v y) (values a) x (in_values a x p))

quotient_of : (a b : Span) (v : ℤ) → member v (quotients a b) ≡ true → IsQuotient a b v
quotient_of a b v m =
    let r = from_flat (λ y. map (λ x. int_div x y) (values a)) (filter is_nonzero (values b)) v m in
    let f = from_filter is_nonzero (values b) r.0 r.1 in
    let q = from_map (λ x. int_div x r.0) (values a) v r.2 in
    record { first = q.0; second = r.0; first_within = from_values a q.0 q.1; second_within = from_values b r.0 f.0; nonzero = nonzero_from r.0 f.1; gives = sym q.2 }

some_not_none : (xs : List ℤ) (v : ℤ) → member v xs ≡ true → hull_some xs ≡ None → ⊥
some_not_none [] v m e = cc
some_not_none (x ∷ xs) v m e = cc

no_member_none : (xs : List ℤ) → ((v : ℤ) → member v xs ≡ true → ⊥) → hull_some xs ≡ None
no_member_none [] h = refl
no_member_none (x ∷ xs) h = absurd (h x (member_first x xs))

same_span : (b : Span) → b.low ≡ pos 0 → b.high ≡ pos 0 → b ≡ point (pos 0)
same_span b p q = span_is b b.low b.high (pos 0) (pos 0) refl p q

-- an interval in order has 0 alone, or another number
zero_or : (b : Span) → IsOrdered b → (b ≡ point (pos 0)) ⊎ ((y : ℤ) × IsWithin y b × (y ≢ pos 0))
zero_or b o =
    elim (int_eq b.low (pos 0)) as (λ t. int_eq b.low (pos 0) ≡ t → (b ≡ point (pos 0)) ⊎ ((y : ℤ) × IsWithin y b × (y ≢ pos 0))) [
      | false ↦ λ e. inr (b.low, record { least = omega (arith, ints); most = o }, λ z. grind (arith, Decides-int_eq))
      | true ↦ λ e. elim (int_eq b.high (pos 0)) as (λ t. int_eq b.high (pos 0) ≡ t → (b ≡ point (pos 0)) ⊎ ((y : ℤ) × IsWithin y b × (y ≢ pos 0))) [
        | false ↦ λ f. inr (b.high, record { least = o; most = omega (arith, ints) }, λ z. grind (arith, Decides-int_eq))
        | true ↦ λ f. inl (same_span b ((Decides-int_eq b.low (pos 0)).0 e) ((Decides-int_eq b.high (pos 0)).0 f))
      ] refl
    ] refl

zero_only : (v : ℤ) → IsWithin v (point (pos 0)) → v ≡ pos 0
zero_only v w = omega (arith, ints, w.least, w.most)

div_missing : (a b : Span) → IsOrdered a → IsOrdered b → (span_div a b ≡ None) ↔ (b ≡ point (pos 0))
unfolding span_div
div_missing a b o p = (
  λ e. elim (zero_or b p) [
    | inl z ↦ z
    | inr n ↦ absurd (some_not_none (quotients a b) (int_div a.low n.0) (quotient_in a b a.low n.0 (record { least = omega (arith, ints); most = o }) n.1 n.2) e)
  ],
  λ z. no_member_none (quotients a b) (λ v m. let q = quotient_of a b v m in q.nonzero (zero_only q.second (subst (λ s. IsWithin q.second s) z q.second_within))),
)

pub div_is_exact : DivIsExact
unfolding span_div
div_is_exact = record {
  holds = λ a b x y p q n. some_holds (quotients a b) (int_div x y) (quotient_in a b x y p q n);
  least = λ a b r e. quotient_of a b r.low (some_low (quotients a b) r e);
  most = λ a b r e. quotient_of a b r.high (some_high (quotients a b) r e);
  missing = div_missing;
}

-- ---- remainders

positive_abs : (y : ℤ) → y ≢ pos 0 → 0 < unsigned_abs y
positive_abs (pos zero) n = absurd (n refl)
positive_abs (pos (suc k)) n = omega arith
positive_abs (negsuc k) n = omega arith

-- a remainder has the sign of the dividend, is no greater than it, and is less than the divisor
pub record IsRest (x r : ℤ) (n : ℕ) : Type 0 where
  pub up : pos 0 ≤ℤ x → pos 0 ≤ℤ r
  pub up_most : pos 0 ≤ℤ x → r ≤ℤ x
  pub down : x ≤ℤ pos 0 → r ≤ℤ pos 0
  pub down_least : x ≤ℤ pos 0 → x ≤ℤ r
  pub small : unsigned_abs r < n

rest_of : (x y : ℤ) → y ≢ pos 0 → IsRest x (int_rem x y) (unsigned_abs y)
rest_of (pos a) y n = record {
  up = λ h. omega (arith, ints);
  up_most = λ h. omega (arith, ints, mod-le a (unsigned_abs y));
  down = λ h. omega (arith, ints, mod-le a (unsigned_abs y));
  down_least = λ h. omega (arith, ints);
  small = rem_below (pos a) y (positive_abs y n);
}
rest_of (negsuc a) y n = record {
  up = λ h. absurd (omega (arith, ints));
  up_most = λ h. absurd (omega (arith, ints));
  down = λ h. omega (arith, ints);
  down_least = λ h. omega (arith, ints, mod-le (suc a) (unsigned_abs y));
  small = rem_below (negsuc a) y (positive_abs y n);
}

low_holds : (lo m x r : ℤ) (n : ℕ) → lo ≤ℤ x → IsRest x r n → pos n ≤ℤ (m +ℤ pos 1) → low_rest lo m ≤ℤ r
unfolding low_rest
low_holds lo m x r n h t k = elim (int_le (pos 0) lo) as (λ b. int_le (pos 0) lo ≡ b → cond b (pos 0) (larger lo (neg_ℤ m)) ≤ℤ r) [
  | true ↦ λ e. t.up (grind (arith, ints))
  | false ↦ λ e.
      let low : lo ≤ℤ r = elim (int_le (pos 0) x) as (λ b. int_le (pos 0) x ≡ b → lo ≤ℤ r) [
        | true ↦ λ f. let o : lo <ℤ pos 0 = grind (arith, ints) in let p : pos 0 ≤ℤ x = grind (arith, ints) in omega (arith, ints, t.up p)
        | false ↦ λ f. let p : x ≤ℤ pos 0 = grind (arith, ints) in omega (arith, ints, t.down_least p)
      ] refl in
      let over : neg_ℤ m ≤ℤ r = omega (arith, ints, t.small) in
      elim (larger_tells lo (neg_ℤ m)) [ inl u ↦ omega (arith, ints, u.0) | inr u ↦ omega (arith, ints, u.0) ]
] refl

high_holds : (hi m x r : ℤ) (n : ℕ) → x ≤ℤ hi → IsRest x r n → pos n ≤ℤ (m +ℤ pos 1) → r ≤ℤ high_rest hi m
unfolding high_rest
high_holds hi m x r n h t k = elim (int_le hi (pos 0)) as (λ b. int_le hi (pos 0) ≡ b → r ≤ℤ cond b (pos 0) (smaller hi m)) [
  | true ↦ λ e. let p : hi ≤ℤ pos 0 = grind (arith, ints) in t.down (omega (arith, ints))
  | false ↦ λ e.
      let high : r ≤ℤ hi = elim (int_le (pos 0) x) as (λ b. int_le (pos 0) x ≡ b → r ≤ℤ hi) [
        | true ↦ λ f. let p : pos 0 ≤ℤ x = grind (arith, ints) in omega (arith, ints, t.up_most p)
        | false ↦ λ f. let o : pos 0 <ℤ hi = grind (arith, ints) in let p : x ≤ℤ pos 0 = grind (arith, ints) in omega (arith, ints, t.down p)
      ] refl in
      let under : r ≤ℤ m = omega (arith, ints, t.small) in
      elim (smaller_tells hi m) [ inl u ↦ omega (arith, ints, u.0) | inr u ↦ omega (arith, ints, u.0) ]
] refl

greatest_holds : (b : Span) (y : ℤ) → IsWithin y b → pos (unsigned_abs y) ≤ℤ (greatest_rest b +ℤ pos 1)
unfolding greatest_rest
greatest_holds b y w = omega (arith, ints, w.least, w.most)

pub wide_holds : (a b : Span) (x y : ℤ) → IsWithin x a → IsWithin y b → y ≢ pos 0 → IsWithin (int_rem x y) (wide_rem a b)
wide_holds a b x y p q n = record {
  least = low_holds a.low (greatest_rest b) x (int_rem x y) (unsigned_abs y) p.least (rest_of x y n) (greatest_holds b y q);
  most = high_holds a.high (greatest_rest b) x (int_rem x y) (unsigned_abs y) p.most (rest_of x y n) (greatest_holds b y q);
}

-- between two numbers with the same quotient each has it
pub same_between : (l x h y : ℤ) → y ≢ pos 0 → l ≤ℤ x → x ≤ℤ h → int_div l y ≡ int_div h y → (int_div l y ≡ int_div x y) × (int_div x y ≡ int_div h y)
same_between l x h y n p q e =
    elim (int_le (pos 0) y) as (λ b. int_le (pos 0) y ≡ b → (int_div l y ≡ int_div x y) × (int_div x y ≡ int_div h y)) [
      | true ↦ λ f. let o : pos 0 <ℤ y = grind (arith, ints) in
          (omega (arith, ints, rises l x y p o, rises x h y q o, e), omega (arith, ints, rises l x y p o, rises x h y q o, e))
      | false ↦ λ f. let o : y <ℤ pos 0 = grind (arith, ints) in
          (omega (arith, ints, falls l x y p o, falls x h y q o, e), omega (arith, ints, falls l x y p o, falls x h y q o, e))
    ] refl

pub one_divisor : (a b : Span) → is_one_quotient a b ≡ true → b.low ≡ b.high
one_divisor a b e = elim (int_eq b.low b.high) as (λ t. int_eq b.low b.high ≡ t → (t && int_eq (int_div a.low b.low) (int_div a.high b.low)) ≡ true → b.low ≡ b.high) [
  | true ↦ λ f k. (Decides-int_eq b.low b.high).0 f
  | false ↦ λ f k. cc
] refl e

pub only_divisor : (b : Span) (y : ℤ) → IsWithin y b → b.low ≡ b.high → b.low ≡ y
only_divisor b y w e = omega (arith, ints, w.least, w.most, e)

narrow_holds : (a b : Span) (x y : ℤ) → IsWithin x a → IsWithin y b → y ≢ pos 0 → is_one_quotient a b ≡ true → IsWithin (int_rem x y) (record { low = int_rem a.low b.low; high = int_rem a.high b.low })
narrow_holds a b x y p q n e =
    let d = only_divisor b y q (one_divisor a b e) in
    let s = subst (λ z. int_div a.low z ≡ int_div a.high z) d (one_quotient a b e) in
    let t = same_between a.low x a.high y n p.least p.most s in
    subst (λ z. IsWithin (int_rem x y) (record { low = int_rem a.low z; high = int_rem a.high z })) (sym d)
    (record { least = rem_in_order a.low x y p.least t.0; most = rem_in_order x a.high y p.most t.1 })

pub zero_point : (b : Span) → is_point (pos 0) b ≡ true → b ≡ point (pos 0)
zero_point b e = elim (int_eq b.low (pos 0)) as (λ t. int_eq b.low (pos 0) ≡ t → cond t (int_eq b.high (pos 0)) false ≡ true → b ≡ point (pos 0)) [
  | true ↦ λ f k. same_span b ((Decides-int_eq b.low (pos 0)).0 f) ((Decides-int_eq b.high (pos 0)).0 k)
  | false ↦ λ f k. cc
] refl e

rem_holds : (a b : Span) (x y : ℤ) → IsWithin x a → IsWithin y b → y ≢ pos 0 → IsInside (Some (point (int_rem x y))) (span_rem a b)
unfolding span_rem
rem_holds a b x y p q n =
    elim (is_point (pos 0) b) as (λ t. is_point (pos 0) b ≡ t → IsInside (Some (point (int_rem x y))) (cond t None (Some (cond (is_one_quotient a b) (record { low = int_rem a.low b.low; high = int_rem a.high b.low }) (wide_rem a b))))) [
      | true ↦ λ e. absurd (n (zero_only y (subst (λ s. IsWithin y s) (zero_point b e) q)))
      | false ↦ λ e. elim (is_one_quotient a b) as (λ t. is_one_quotient a b ≡ t → IsInside (Some (point (int_rem x y))) (Some (cond t (record { low = int_rem a.low b.low; high = int_rem a.high b.low }) (wide_rem a b)))) [
        | true ↦ λ f. let w = narrow_holds a b x y p q n f in (w, w)
        | false ↦ λ f. let w = wide_holds a b x y p q n in (w, w)
      ] refl
    ] refl

some_is_not_none : (a b : Span) (s : Span) → Some s ≡ span_rem a b → span_rem a b ≡ None → ⊥
some_is_not_none a b s e f = cc

rem_missing : (a b : Span) → IsOrdered a → IsOrdered b → (span_rem a b ≡ None) ↔ (b ≡ point (pos 0))
rem_missing a b o p = (
  λ e. elim (is_point (pos 0) b) as (λ t. is_point (pos 0) b ≡ t → b ≡ point (pos 0)) [
    | true ↦ λ f. zero_point b f
    | false ↦ λ f. elim (is_one_quotient a b) as (λ t. is_one_quotient a b ≡ t → b ≡ point (pos 0)) [
      | true ↦ λ g. absurd (some_is_not_none a b _ (rem_one a b f g) e)
      | false ↦ λ g. absurd (some_is_not_none a b _ (rem_more a b f g) e)
    ] refl
  ] refl,
  λ z. sym (rem_none a b (subst (λ s. is_point (pos 0) s ≡ true) (sym z) refl)),
)

rem_exact : (a b : Span) → b ≢ point (pos 0) → is_one_quotient a b ≡ true → span_rem a b ≡ Some (record { low = int_rem a.low b.low; high = int_rem a.high b.low })
rem_exact a b n e = elim (is_point (pos 0) b) as (λ t. is_point (pos 0) b ≡ t → span_rem a b ≡ Some (record { low = int_rem a.low b.low; high = int_rem a.high b.low })) [
  | true ↦ λ f. absurd (n (zero_point b f))
  | false ↦ λ f. sym (rem_one a b f e)
] refl

pub rem_is_sound : RemIsSound
rem_is_sound = record { holds = rem_holds; missing = rem_missing; exact = rem_exact }
