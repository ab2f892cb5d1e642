-- The sum over all variables, where an expression has one variable, and where two have none in common.
use Rattle.std.proofs.Common.{◌≡◌, ◌≢◌, ◌∙◌, ◌⊎◌, ℕ, zero, suc, ◌<◌, true, false, cond, refl, List, [], ◌∷◌, length, ℤ, pos, ◌+ℤ◌, ◌*ℤ◌, neg_ℤ, ap, sym, subst, arith, inl, inr}
use Rattle.std.specs.Prelude.{nat_eq, int_le}
use Rattle.std.proofs.lemmas.Int.{ints}
use Rattle.std.proofs.lemmas.Bool.{cases_eq}
use Rattle.std.proofs.lemmas.Bool.Decides.{Decides-eqb}
use Rattle.opl_domain.specs.Span.{Span, IsWithin, smaller, larger, hull_of}
use Rattle.opl_domain.specs.Arithmetic.{span_add}
use Rattle.opl_domain.specs.Family.{member, Family, hull, set_of}
use Rattle.opl_domain.proofs.Members.{least_member, least_is, greatest_member, greatest_is}
use Rattle.opl_expr.specs.Forms.{Term}
use Rattle.opl_expr.specs.Range.{span_scale, weighted, coef}
use Rattle.opl_expr.proofs.Ring.{neg_times}
use Rattle.opl_expr.proofs.Inside.{scale_holds}
use Rattle.opl_all_different.specs.declared.part.Part.{Part}
use Rattle.opl_all_different.specs.Parts.{numbers_of, factor_of, IsPartOf}
use Rattle.opl_all_different.proofs.Meetings.{zero_or_not, numbers_set}

-- both ends of an interval are those of another one
pub record SameEnds (a b : Span) : Type 0 where
  pub low : a.low ≡ b.low
  pub high : a.high ≡ b.high

add_ends : (a b : Span) → ((span_add a b).low ≡ a.low +ℤ b.low) × ((span_add a b).high ≡ a.high +ℤ b.high)
unfolding span_add
add_ends a b = (refl, refl)

nothing_low : (a : Span) → (span_scale (pos 0) a).low ≡ pos 0
unfolding span_scale smaller
nothing_low a = grind (arith, ints)

nothing_high : (a : Span) → (span_scale (pos 0) a).high ≡ pos 0
unfolding span_scale larger
nothing_high a = grind (arith, ints)

nothing_scaled : (k : ℤ) (a : Span) → k ≡ pos 0 → ((span_scale k a).low ≡ pos 0) × ((span_scale k a).high ≡ pos 0)
nothing_scaled k a e = subst (λ z. ((span_scale z a).low ≡ pos 0) × ((span_scale z a).high ≡ pos 0)) (sym e) (nothing_low a, nothing_high a)

opposite_low : (k : ℤ) (a : Span) → (span_scale (neg_ℤ k) a).low ≡ neg_ℤ (span_scale k a).high
unfolding span_scale smaller larger
opposite_low k a = grind (arith, ints, neg_times)

opposite_high : (k : ℤ) (a : Span) → (span_scale (neg_ℤ k) a).high ≡ neg_ℤ (span_scale k a).low
unfolding span_scale smaller larger
opposite_high k a = grind (arith, ints, neg_times)

-- ---- no variable, and one

none_sum : (F : Family) (c : ℕ → ℤ) (n : ℕ) → ((y : ℕ) → y < n → c y ≡ pos 0) → ((weighted F c n).low ≡ pos 0) × ((weighted F c n).high ≡ pos 0)
none_sum F c zero h = (refl, refl)
none_sum F c (suc n) h =
    let e = add_ends (weighted F c n) (span_scale (c n) (hull F n)) in
    let s = nothing_scaled (c n) (hull F n) (h n (omega arith)) in
    let i = none_sum F c n (λ y k. h y (omega (arith, k))) in
    (omega (arith, ints, e.0, s.0, i.0), omega (arith, ints, e.1, s.1, i.1))

one_sum : (F : Family) (c : ℕ → ℤ) (x n : ℕ) → x < n → ((y : ℕ) → y ≢ x → c y ≡ pos 0) → SameEnds (weighted F c n) (span_scale (c x) (hull F x))
one_sum F c x zero k h = absurd (omega (arith, k))
one_sum F c x (suc n) k h =
    let e = add_ends (weighted F c n) (span_scale (c n) (hull F n)) in
    elim (cases_eq x n) [
      | inl i ↦
          let s = none_sum F c n (λ y l. h y (λ j. omega (arith, l, j, i))) in
          subst (λ z. SameEnds (weighted F c (suc n)) (span_scale (c z) (hull F z))) (sym i) (record { low = omega (arith, ints, e.0, s.0); high = omega (arith, ints, e.1, s.1) })
      | inr m ↦
          let s = nothing_scaled (c n) (hull F n) (h n (λ j. m (sym j))) in
          let i = one_sum F c x n (omega (arith, k, m)) h in
          record { low = omega (arith, ints, e.0, s.0, i.low); high = omega (arith, ints, e.1, s.1, i.high) }
    ]

-- ---- the difference of two

abbrev pub apart_from : (ℕ → ℤ) → (ℕ → ℤ) → ℕ → ℤ
apart_from c d x = c x +ℤ neg_ℤ (d x)

pub apart_sum : (F : Family) (c d : ℕ → ℤ) (n : ℕ) → ((y : ℕ) → (c y ≡ pos 0) ⊎ (d y ≡ pos 0))
    → ((weighted F (apart_from c d) n).low ≡ (weighted F c n).low +ℤ neg_ℤ (weighted F d n).high) × ((weighted F (apart_from c d) n).high ≡ (weighted F c n).high +ℤ neg_ℤ (weighted F d n).low)
apart_sum F c d zero h = (omega (arith, ints), omega (arith, ints))
apart_sum F c d (suc n) h =
    let i = apart_sum F c d n h in
    let e = add_ends (weighted F (apart_from c d) n) (span_scale (apart_from c d n) (hull F n)) in
    let f = add_ends (weighted F c n) (span_scale (c n) (hull F n)) in
    let g = add_ends (weighted F d n) (span_scale (d n) (hull F n)) in
    let s = step (c n) (d n) (hull F n) (h n) in
    (omega (arith, ints, i.0, e.0, f.0, g.1, s.0), omega (arith, ints, i.1, e.1, f.1, g.0, s.1))
  where
    step : (k l : ℤ) (a : Span) → (k ≡ pos 0) ⊎ (l ≡ pos 0) → ((span_scale (k +ℤ neg_ℤ l) a).low ≡ (span_scale k a).low +ℤ neg_ℤ (span_scale l a).high) × ((span_scale (k +ℤ neg_ℤ l) a).high ≡ (span_scale k a).high +ℤ neg_ℤ (span_scale l a).low)
    step k l a (inl e) =
        let s = nothing_scaled k a e in
        let r : k +ℤ neg_ℤ l ≡ neg_ℤ l = omega (arith, ints, e) in
        let t = ap (λ z. (span_scale z a).low) r ∙ opposite_low l a in
        let u = ap (λ z. (span_scale z a).high) r ∙ opposite_high l a in
        (omega (arith, ints, s.0, t), omega (arith, ints, s.1, u))
    step k l a (inr e) =
        let s = nothing_scaled l a e in
        let r : k +ℤ neg_ℤ l ≡ k = omega (arith, ints, e) in
        let t = ap (λ z. (span_scale z a).low) r in
        let u = ap (λ z. (span_scale z a).high) r in
        (omega (arith, ints, s.1, t), omega (arith, ints, s.0, u))

-- ---- an expression that is a part

same_number : (x : ℕ) → nat_eq x x ≡ true
same_number x = (Decides-eqb x x).1 refl

other_number : (x y : ℕ) → y ≢ x → nat_eq y x ≡ false
other_number x y n = elim (nat_eq y x) as (λ b. nat_eq y x ≡ b → b ≡ false) [ true ↦ λ e. absurd (n ((Decides-eqb y x).0 e)) | false ↦ λ e. refl ] refl

pub factor_here : (p : Part) → factor_of p p.variable ≡ p.factor
factor_here p = ap (λ b. cond b p.factor (pos 0)) (same_number p.variable)

pub factor_there : (p : Part) (y : ℕ) → y ≢ p.variable → factor_of p y ≡ pos 0
factor_there p y n = ap (λ b. cond b p.factor (pos 0)) (other_number p.variable y n)

pub factor_none : (p : Part) (y : ℕ) → p.factor ≡ pos 0 → factor_of p y ≡ pos 0
factor_none p y e = elim (nat_eq y p.variable) as (λ b. cond b p.factor (pos 0) ≡ pos 0) [ true ↦ e | false ↦ refl ]

-- the numbers of a part as an interval, times its factor
abbrev pub scaled : Family → Part → Span
scaled F p = span_scale p.factor (hull_of (numbers_of F p))

hull_is : (F : Family) (x : ℕ) → hull F x ≡ hull_of (set_of F x)
unfolding hull
hull_is F x = refl

pub part_sum : (F : Family) (t : Term) (p : Part) → IsPartOf (length F) t p → SameEnds (weighted F (coef t) (length F)) (scaled F p)
part_sum F t p i = elim (zero_or_not p.factor) [
  | inl e ↦
      let s = none_sum F (coef t) (length F) (λ y h. i.factors y ∙ factor_none p y e) in
      let n = nothing_scaled p.factor (hull_of (numbers_of F p)) e in
      record { low = s.0 ∙ sym n.0; high = s.1 ∙ sym n.1 }
  | inr n ↦
      let s = one_sum F (coef t) p.variable (length F) (i.there n) (λ y d. i.factors y ∙ factor_there p y d) in
      let k = i.factors p.variable ∙ factor_here p in
      let e = ap (λ z. span_scale z (hull F p.variable)) k ∙ ap (span_scale p.factor) (hull_is F p.variable ∙ ap hull_of (sym (numbers_set F p n))) in
      record { low = s.low ∙ ap (λ a. a.low) e; high = s.high ∙ ap (λ a. a.high) e }
]

-- ---- the ends are products

in_hull_of : (xs : List ℤ) (v : ℤ) → member v xs ≡ true → IsWithin v (hull_of xs)
unfolding hull_of
in_hull_of [] v m = cc
in_hull_of (w ∷ xs) v m = record { least = least_is w xs v m; most = greatest_is w xs v m }

pub in_scaled : (xs : List ℤ) (k v : ℤ) → member v xs ≡ true → IsWithin (k *ℤ v) (span_scale k (hull_of xs))
in_scaled xs k v m = scale_holds k (hull_of xs) v (in_hull_of xs v m)

ends_among : (xs : List ℤ) (w : ℤ) → member w xs ≡ true → (member (hull_of xs).low xs ≡ true) × (member (hull_of xs).high xs ≡ true)
unfolding hull_of
ends_among [] w h = cc
ends_among (v ∷ xs) w h = (least_member v xs, greatest_member v xs)

smaller_is : (x y : ℤ) → (smaller x y ≡ x) ⊎ (smaller x y ≡ y)
unfolding smaller
smaller_is x y = elim (int_le x y) as (λ b. (cond b x y ≡ x) ⊎ (cond b x y ≡ y)) [ true ↦ inl refl | false ↦ inr refl ]

larger_is : (x y : ℤ) → (larger x y ≡ x) ⊎ (larger x y ≡ y)
unfolding larger
larger_is x y = elim (int_le x y) as (λ b. (cond b y x ≡ x) ⊎ (cond b y x ≡ y)) [ true ↦ inr refl | false ↦ inl refl ]

scale_low : (k : ℤ) (a : Span) → (span_scale k a).low ≡ smaller (k *ℤ a.low) (k *ℤ a.high)
unfolding span_scale
scale_low k a = refl

scale_high : (k : ℤ) (a : Span) → (span_scale k a).high ≡ larger (k *ℤ a.low) (k *ℤ a.high)
unfolding span_scale
scale_high k a = refl

pub low_among : (xs : List ℤ) (k w : ℤ) → member w xs ≡ true → (v : ℤ) × (member v xs ≡ true) × ((span_scale k (hull_of xs)).low ≡ k *ℤ v)
low_among xs k w m =
    let a = hull_of xs in
    let e = ends_among xs w m in
    elim (smaller_is (k *ℤ a.low) (k *ℤ a.high)) [
      | inl i ↦ (a.low, e.0, scale_low k a ∙ i)
      | inr i ↦ (a.high, e.1, scale_low k a ∙ i)
    ]

pub high_among : (xs : List ℤ) (k w : ℤ) → member w xs ≡ true → (v : ℤ) × (member v xs ≡ true) × ((span_scale k (hull_of xs)).high ≡ k *ℤ v)
high_among xs k w m =
    let a = hull_of xs in
    let e = ends_among xs w m in
    elim (larger_is (k *ℤ a.low) (k *ℤ a.high)) [
      | inl i ↦ (a.low, e.0, scale_high k a ∙ i)
      | inr i ↦ (a.high, e.1, scale_high k a ∙ i)
    ]
