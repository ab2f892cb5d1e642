-- Forms that are to differ from 0: which values are dead.
use Rattle.std.proofs.Common.{◌≡◌, ◌≢◌, ◌∙◌, ◌⊎◌, ℕ, zero, suc, ◌+◌, ◌<◌, ◌≤◌, Bool, true, false, cond, ◌||◌, refl, List, [], ◌∷◌, length, ℤ, pos, negsuc, ◌+ℤ◌, ◌*ℤ◌, neg_ℤ, ◌≤ℤ◌, ◌<ℤ◌, get_or, ap, sym, subst, arith, inl, inr}
use Rattle.std.specs.Prelude.{nat_eq, Some, None}
use Rattle.std.specs.Ordering.{int_eq}
use Rattle.std.proofs.lemmas.Int.{ints}
use Rattle.std.proofs.lemmas.Bool.{cases_eq}
use Rattle.std.proofs.lemmas.Bool.Decides.{Decides-int_eq, Decides-eqb}
use Rattle.opl_domain.specs.Span.{Span, smaller, larger, point, is_point, hull_of}
use Rattle.opl_domain.specs.Arithmetic.{span_add}
use Rattle.opl_domain.specs.Family.{member, Family, IsFamily, Full, IsLeast, IsGreatest, set_of, has, hull, only, cut_of, is_outside}
use Rattle.opl_domain.proofs.Members.{least_member, greatest_member}
use Rattle.opl_domain.proofs.Sets.{length-only, only_here, only_there, length-cut}
use Rattle.opl_expr.specs.Range.{span_scale, weighted, with_variables}
use Rattle.opl_expr.proofs.Comparisons.{weighted_ordered, variables_in, in_hull}
use Rattle.opl_expr.proofs.Inside.{same_in, is_point_in, scale_holds}
use Rattle.opl_trace.specs.Stable.{IsMonotone, IsStable, IsGreatestStable, HasFailed}
use Rattle.opl_trace.proofs.Passing.{false_unless}
use Rattle.opl_trace.proofs.Families.{only_full, only_below, below_self}
use Rattle.opl_trace.proofs.StoredSets.{cut_is_family}
use Rattle.opl_filter.specs.Filtering.{IsLeftOf, IsBetween}
use Rattle.opl_filter.proofs.Removals.{left_one, left_below, left_sets, left_kept}
use Rattle.opl_linear.specs.Linear.{factor_in, names, NamesOnce, AreAmong, AreFactors, least_product, least_sum, least_weighted, is_zero}
use Rattle.opl_linear.specs.Roots.{Fixes, variable_at, IsNextOpen, HasAvoided, Avoids}
use Rattle.opl_linear.proofs.Sums.{least_only, least_other, least_listed, unnamed}
use Rattle.opl_range.specs.Between.{IsRoot}
use Rattle.opl_linear.proofs.Trims.{least_hull, greatest_hull, times_between, in_run, from_run}
use Rattle.opl_linear.proofs.AtMost.{factor_at, factors_at, among_at, place_of, hull_kept, nothing_between}

-- the greatest product is the least one: the set has one value, or the factor is 0
pub record IsClosed (F : Family) (c : ℕ → ℤ) (y : ℕ) : Type 0 where
  pub one : (span_scale (c y) (hull F y)).low ≡ (span_scale (c y) (hull F y)).high

-- the greatest product is greater than the least one
pub record IsOpen (F : Family) (c : ℕ → ℤ) (y : ℕ) : Type 0 where
  pub more : (span_scale (c y) (hull F y)).low <ℤ (span_scale (c y) (hull F y)).high

add_ends : (a b : Span) → ((span_add a b).low ≡ a.low +ℤ b.low) × ((span_add a b).high ≡ a.high +ℤ b.high)
unfolding span_add
add_ends a b = (refl, refl)

scale_ordered : (k : ℤ) (a : Span) → (span_scale k a).low ≤ℤ (span_scale k a).high
unfolding span_scale smaller larger
scale_ordered k a = grind (arith, ints)

-- a sum of closed parts is one number
closed_sum : (F : Family) (c : ℕ → ℤ) (n : ℕ) → ((y : ℕ) → y < n → IsClosed F c y) → (weighted F c n).low ≡ (weighted F c n).high
closed_sum F c zero h = refl
closed_sum F c (suc n) h =
    let e = add_ends (weighted F c n) (span_scale (c n) (hull F n)) in
    omega (arith, ints, e.0, e.1, closed_sum F c n (λ y k. h y (omega (arith, k))), (h n (omega arith)).one)

-- one open part makes the sum open
open_sum : (F : Family) (c : ℕ → ℤ) (n y : ℕ) → y < n → (span_scale (c y) (hull F y)).low <ℤ (span_scale (c y) (hull F y)).high → (weighted F c n).low <ℤ (weighted F c n).high
open_sum F c zero y k h = absurd (omega (arith, k))
open_sum F c (suc n) y k h =
    let e = add_ends (weighted F c n) (span_scale (c n) (hull F n)) in
    elim (cases_eq y n) [
      | inl i ↦ let j = subst (λ z. (span_scale (c z) (hull F z)).low <ℤ (span_scale (c z) (hull F z)).high) i h in omega (arith, ints, e.0, e.1, j, weighted_ordered F c n)
      | inr m ↦ omega (arith, ints, e.0, e.1, open_sum F c n y (omega (arith, k, m)) h, scale_ordered (c n) (hull F n))
    ]

one_end : (l h k : ℤ) → l ≡ h → is_point (pos 0) (record { low = k +ℤ l; high = k +ℤ h }) ≡ int_eq (k +ℤ l) (pos 0)
one_end l h k e = subst (λ z. is_point (pos 0) (record { low = k +ℤ l; high = k +ℤ z }) ≡ int_eq (k +ℤ l) (pos 0)) e (twice (int_eq (k +ℤ l) (pos 0)))
  where
    twice : (b : Bool) → cond b b false ≡ b
    twice true = refl
    twice false = refl

-- an open form isn't 0 alone
open_spares : (F : Family) (c : ℕ → ℤ) (k : ℤ) (y : ℕ) → y < length F → IsOpen F c y → is_zero c k F ≡ false
unfolding is_zero with_variables span_add
open_spares F c k y h o = apart (weighted F c (length F)).low (weighted F c (length F)).high k (open_sum F c (length F) y h o.more)
  where
    apart : (l h k : ℤ) → l <ℤ h → is_point (pos 0) (record { low = k +ℤ l; high = k +ℤ h }) ≡ false
    apart l h k o = grind (arith, ints, Decides-int_eq)

one_value : (k v : ℤ) → (span_scale k (hull_of (v ∷ []))).low ≡ (span_scale k (hull_of (v ∷ []))).high
unfolding hull_of span_scale smaller larger
one_value k v = grind (arith, ints)

closed_here : (F : Family) (c : ℕ → ℤ) (x : ℕ) (v : ℤ) → x < length F → IsClosed (only F x v) c x
unfolding hull
closed_here F c x v h = record { one = subst (λ vs. (span_scale (c x) (hull_of vs)).low ≡ (span_scale (c x) (hull_of vs)).high) (sym (only_here F x v h)) (one_value (c x) v) }

-- ---- a variable elsewhere

hull_there : (F : Family) (x y : ℕ) (v : ℤ) → y ≢ x → hull (only F x v) y ≡ hull F y
unfolding hull
hull_there F x y v n = ap hull_of (only_there F x y v n)

closed_as : (F G : Family) (c : ℕ → ℤ) (y : ℕ) → hull G y ≡ hull F y → IsClosed F c y → IsClosed G c y
closed_as F G c y e i = record { one = subst (λ a. (span_scale (c y) a).low ≡ (span_scale (c y) a).high) (sym e) i.one }

open_as : (F G : Family) (c : ℕ → ℤ) (y : ℕ) → hull G y ≡ hull F y → IsOpen F c y → IsOpen G c y
open_as F G c y e i = record { more = subst (λ a. (span_scale (c y) a).low <ℤ (span_scale (c y) a).high) (sym e) i.more }

-- what the form comes to without x
abbrev pub others : Family → (ℕ → ℤ) → ℤ → ℕ → ℤ
others F c k x = k +ℤ least_weighted F c (length F) +ℤ neg_ℤ (least_product (c x) (hull F x))

-- where all others are closed, the one value that makes the form 0 is dead
value_only : (F : Family) (c : ℕ → ℤ) (k : ℤ) (x : ℕ) (v : ℤ) → x < length F → ((y : ℕ) → y < length F → y ≢ x → IsClosed F c y) → is_zero c k (only F x v) ≡ int_eq (others F c k x +ℤ (c x *ℤ v)) (pos 0)
unfolding is_zero with_variables span_add least_weighted
value_only F c k x v h o =
    let G = only F x v in
    let n = length F in
    let all : (y : ℕ) → y < n → IsClosed G c y = λ y i. elim (cases_eq y x) [
      | inl e ↦ subst (λ z. IsClosed G c z) (sym e) (closed_here F c x v h)
      | inr m ↦ closed_as F G c y (hull_there F x y v m) (o y i m)
    ] in
    let s = closed_sum G c n all in
    let e : k +ℤ (weighted G c n).low ≡ k +ℤ (weighted F c n).low +ℤ neg_ℤ (least_product (c x) (hull F x)) +ℤ (c x *ℤ v) = omega (arith, ints, least_only F c x v h) in
    subst (λ m. is_point (pos 0) (record { low = k +ℤ (weighted G c m).low; high = k +ℤ (weighted G c m).high }) ≡ int_eq (k +ℤ (weighted F c n).low +ℤ neg_ℤ (least_product (c x) (hull F x)) +ℤ (c x *ℤ v)) (pos 0)) (sym (length-only F x v))
    (one_end (weighted G c n).low (weighted G c n).high k s ∙ ap (λ z. int_eq z (pos 0)) e)

closed_whole : (F : Family) (c : ℕ → ℤ) (k : ℤ) → ((y : ℕ) → y < length F → IsClosed F c y) → is_zero c k F ≡ int_eq (k +ℤ least_weighted F c (length F)) (pos 0)
unfolding is_zero with_variables span_add least_weighted
closed_whole F c k o = one_end (weighted F c (length F)).low (weighted F c (length F)).high k (closed_sum F c (length F) o)

closed_value : (F : Family) (c : ℕ → ℤ) (x : ℕ) (v : ℤ) → IsClosed F c x → has F x v ≡ true → c x *ℤ v ≡ least_product (c x) (hull F x)
unfolding least_product
closed_value F c x v i m = let w = scale_holds (c x) (hull F x) v (in_hull F x v m) in omega (arith, ints, w.least, w.most, i.one)

not_zero : (v : ℤ) → v ≢ pos 0 → int_eq v (pos 0) ≡ false
not_zero v n = false_unless (int_eq v (pos 0)) (λ e. n ((Decides-int_eq v (pos 0)).0 e))

is_there_zero : (v : ℤ) → v ≡ pos 0 → int_eq v (pos 0) ≡ true
is_there_zero v e = (Decides-int_eq v (pos 0)).1 e

pub zero_falls : (c : ℕ → ℤ) (k : ℤ) → IsMonotone (is_zero c k)
unfolding is_zero
zero_falls c k = record {
  falls = λ F G f b h. is_point_in (pos 0) (with_variables F c (length F) (point k)) (with_variables G c (length F) (point k)) (variables_in F G f b c (length F) (point k) (point k) (same_in k))
      (subst (λ n. is_point (pos 0) (with_variables G c n (point k)) ≡ true) (sym b.same) h);
}

-- ---- stable families

-- two open parts: no value is dead
stable_two : (F : Family) (c : ℕ → ℤ) (k : ℤ) (x y : ℕ) → Full F → x < length F → y < length F → x ≢ y → IsOpen F c x → IsOpen F c y → IsStable (is_zero c k) F
stable_two F c k x y f h i n o p = record {
  full = f;
  spared = open_spares F c k x h o;
  each = λ z v l m. elim (cases_eq z x) [
    | inl e ↦ open_spares (only F z v) c k y (omega (arith, i, length-only F z v)) (open_as F (only F z v) c y (hull_there F z y v (λ j. n (sym e ∙ sym j))) p)
    | inr d ↦ open_spares (only F z v) c k x (omega (arith, h, length-only F z v)) (open_as F (only F z v) c x (hull_there F z x v (λ j. d (sym j))) o)
  ];
}

-- all parts closed: the form is one number
stable_closed : (F : Family) (c : ℕ → ℤ) (k : ℤ) → Full F → ((y : ℕ) → y < length F → IsClosed F c y) → (k +ℤ least_weighted F c (length F)) ≢ pos 0 → IsStable (is_zero c k) F
stable_closed F c k f o n = record {
  full = f;
  spared = closed_whole F c k o ∙ not_zero (k +ℤ least_weighted F c (length F)) n;
  each = λ x v l m.
      let e : others F c k x +ℤ (c x *ℤ v) ≡ k +ℤ least_weighted F c (length F) = omega (arith, ints, closed_value F c x v (o x l) m) in
      value_only F c k x v l (λ y i d. o y i) ∙ ap (λ z. int_eq z (pos 0)) e ∙ not_zero (k +ℤ least_weighted F c (length F)) n;
}

module _ (F : Family) (c : ℕ → ℤ) (k : ℤ) (x : ℕ) (f : Full F) (h : x < length F) (o : (y : ℕ) → y < length F → y ≢ x → IsClosed F c y) (n : (w : ℤ) → has F x w ≡ true → (others F c k x +ℤ (c x *ℤ w)) ≢ pos 0) where
  spared_here : (v : ℤ) → has F x v ≡ true → is_zero c k (only F x v) ≡ false
  spared_here v m = value_only F c k x v h o ∙ not_zero (others F c k x +ℤ (c x *ℤ v)) (n v m)

  spared_all : is_zero c k F ≡ false
  spared_all = false_unless (is_zero c k F) (λ e.
      let w = f x h in
      let d = (zero_falls c k).falls (only F x w.0) F (only_full F x w.0 f) (only_below F x w.0 w.1) e in
      let s = spared_here w.0 w.1 in
      cc)

  -- another variable has one value as it is
  same_others : (y : ℕ) (v : ℤ) → y < length F → y ≢ x → has F y v ≡ true → others (only F y v) c k x ≡ others F c k x
  same_others y v l d m =
      let G = only F y v in
      let e = ap (λ i. least_weighted G c i) (length-only F y v) in
      let a = ap (least_product (c x)) (hull_there F y x v (λ j. d (sym j))) in
      omega (arith, ints, e, a, least_only F c y v l, closed_value F c y v (o y l d) m)

  spared_there : (y : ℕ) (v : ℤ) → y < length F → y ≢ x → has F y v ≡ true → is_zero c k (only F y v) ≡ false
  spared_there y v l d m = false_unless (is_zero c k (only F y v)) (λ e.
      let G = only F y v in
      let w = f x h in
      let i = only_full F y v f in
      let j : has G x w.0 ≡ true = subst (λ vs. member w.0 vs ≡ true) (sym (only_there F y x v (λ q. d (sym q)))) w.1 in
      let z = (zero_falls c k).falls (only G x w.0) G (only_full G x w.0 i) (only_below G x w.0 j) e in
      let closed : (u : ℕ) → u < length G → u ≢ x → IsClosed G c u = λ u q r. elim (cases_eq u y) [
        | inl s ↦ subst (λ t. IsClosed G c t) (sym s) (closed_here F c y v l)
        | inr t ↦ closed_as F G c u (hull_there F y u v t) (o u (omega (arith, q, length-only F y v)) r)
      ] in
      let p = value_only G c k x w.0 (omega (arith, h, length-only F y v)) closed in
      let q = ap (λ a. int_eq (a +ℤ (c x *ℤ w.0)) (pos 0)) (same_others y v l d m) in
      let s = not_zero (others F c k x +ℤ (c x *ℤ w.0)) (n w.0 w.1) in
      cc)

  stable_one : IsStable (is_zero c k) F
  stable_one = record {
    full = f;
    spared = spared_all;
    each = λ y v l m. elim (cases_eq y x) [
      | inl e ↦ subst (λ z. is_zero c k (only F z v) ≡ false) (sym e) (spared_here v (subst (λ z. has F z v ≡ true) e m))
      | inr d ↦ spared_there y v l d m
    ];
  }

-- ---- how it ends

nothing_gone : (dead : Family → Bool) (F : Family) → IsStable dead F → IsGreatestStable dead F F
nothing_gone dead F s = record { is_stable = record { stable = s; within = below_self F }; most = λ G i. i.within }

-- ---- from the list

outside_itself : (u v : ℤ) → u ≡ v → is_outside v v u ≡ true → ⊥
unfolding is_outside
outside_itself u v e i = grind (arith, ints)

abbrev pub key : List (ℕ × ℤ) → ℕ → ℕ
key ps i = (get_or ps i (0, pos 0)).0

scale_fixed : (k : ℤ) (a : Span) → a.low ≡ a.high → (span_scale k a).low ≡ (span_scale k a).high
unfolding span_scale smaller larger
scale_fixed k a e = grind (arith, ints)

scale_none : (k : ℤ) (a : Span) → k ≡ pos 0 → (span_scale k a).low ≡ (span_scale k a).high
unfolding span_scale smaller larger
scale_none k a e = grind (arith, ints)

positive : (k u : ℤ) → pos 0 <ℤ k → pos 0 <ℤ u → pos 0 <ℤ (k *ℤ u)
positive (pos zero) u h i = absurd (omega (arith, ints, h))
positive (negsuc m) u h i = absurd (omega (arith, ints, h))
positive (pos (suc m)) (pos zero) h i = absurd (omega (arith, ints, i))
positive (pos (suc m)) (negsuc n) h i = absurd (omega (arith, ints, i))
positive (pos (suc m)) (pos (suc n)) h i = omega (arith, ints)

negative : (k u : ℤ) → k <ℤ pos 0 → pos 0 <ℤ u → (k *ℤ u) <ℤ pos 0
negative (pos m) u h i = absurd (omega (arith, ints, h))
negative (negsuc m) (pos zero) h i = absurd (omega (arith, ints, i))
negative (negsuc m) (negsuc n) h i = absurd (omega (arith, ints, i))
negative (negsuc m) (pos (suc n)) h i = omega (arith, ints)

signs : (k : ℤ) → k ≢ pos 0 → (pos 0 <ℤ k) ⊎ (k <ℤ pos 0)
signs (pos zero) n = absurd (n refl)
signs (pos (suc m)) n = inl (omega (arith, ints))
signs (negsuc m) n = inr (omega (arith, ints))

scale_apart : (k : ℤ) (a : Span) → (k *ℤ a.low) ≢ (k *ℤ a.high) → (span_scale k a).low <ℤ (span_scale k a).high
unfolding span_scale smaller larger
scale_apart k a n = grind (arith, ints)

scale_open : (k : ℤ) (a : Span) → k ≢ pos 0 → a.low <ℤ a.high → (span_scale k a).low <ℤ (span_scale k a).high
scale_open k a n h = scale_apart k a (λ e. elim (signs k n) [
  | inl i ↦ omega (arith, ints, e, times_between k a.low a.high, positive k (a.high +ℤ neg_ℤ a.low) i (omega (arith, ints, h)))
  | inr i ↦ omega (arith, ints, e, times_between k a.low a.high, negative k (a.high +ℤ neg_ℤ a.low) i (omega (arith, ints, h)))
])

-- all but one place of the list are fixed, so all but one variable are closed
closed_else : (F : Family) (ps : List (ℕ × ℤ)) (j : ℕ) → ((i : ℕ) → i ≢ j → i < length ps → (hull F (key ps i)).low ≡ (hull F (key ps i)).high) → (y : ℕ) → (j < length ps → y ≢ key ps j) → IsClosed F (factor_in ps) y
closed_else F ps j all y n = elim (names ps y) as (λ b. names ps y ≡ b → IsClosed F (factor_in ps) y) [
  | true ↦ λ e.
      let p = place_of ps y e in
      let other : p.place ≢ j = λ q. n (omega (arith, p.there, q)) (p.is ∙ ap (key ps) q) in
      record { one = scale_fixed (factor_in ps y) (hull F y) (subst (λ z. (hull F z).low ≡ (hull F z).high) (sym p.is) (all p.place other p.there)) }
  | false ↦ λ e. record { one = scale_none (factor_in ps y) (hull F y) (unnamed ps y e) }
] refl

open_at : (F : Family) (ps : List (ℕ × ℤ)) (j : ℕ) → NamesOnce ps → AreFactors ps → j < length ps → (hull F (key ps j)).low <ℤ (hull F (key ps j)).high → IsOpen F (factor_in ps) (key ps j)
open_at F ps j o a h i =
    let e = factor_at ps j o h in
    record { more = scale_open (factor_in ps (key ps j)) (hull F (key ps j)) (λ z. (factors_at ps j a h).0 (sym e ∙ z)) i }

named_at : (ps : List (ℕ × ℤ)) (j : ℕ) → j < length ps → names ps (key ps j) ≡ true
named_at [] j h = absurd (omega (arith, h))
named_at (p ∷ ps) zero h = ap (λ c. c || names ps p.0) ((Decides-eqb p.0 p.0).1 refl)
named_at (p ∷ ps) (suc j) h = or_true (nat_eq (key ps j) p.0) (names ps (key ps j)) (named_at ps j (omega (arith, h)))
  where
    or_true : (a b : Bool) → b ≡ true → (a || b) ≡ true
    or_true true b e = refl
    or_true false b e = e

keys_apart : (ps : List (ℕ × ℤ)) (i j : ℕ) → NamesOnce ps → i < j → j < length ps → key ps i ≢ key ps j
keys_apart [] i j o h k = absurd (omega (arith, k))
keys_apart (p ∷ ps) zero zero o h k = absurd (omega (arith, h))
keys_apart (p ∷ ps) zero (suc j) o h k = λ e. let t = named_at ps j (omega (arith, k)) in let f = o.0 in let g = ap (names ps) e in cc
keys_apart (p ∷ ps) (suc i) zero o h k = absurd (omega (arith, h))
keys_apart (p ∷ ps) (suc i) (suc j) o h k = keys_apart ps i j o.1 (omega (arith, h)) (omega (arith, k))

module _ (D : Family) (ps : List (ℕ × ℤ)) (k : ℤ) (o : NamesOnce ps) (a : AreAmong (length D) ps) (s : AreFactors ps) (f : IsFamily D) where
  -- no part is open
  all_closed : (first : ℕ) → IsNextOpen D ps 0 first → first ≡ length ps → (y : ℕ) → y < length D → IsClosed D (factor_in ps) y
  all_closed first p e y l = closed_else D ps first (λ i n h. p.skipped i (omega arith) (omega (arith, e, h))) y (λ h. absurd (omega (arith, h, e)))

  sum_is : (t : ℤ) → t ≡ k +ℤ least_sum D ps → t ≡ k +ℤ least_weighted D (factor_in ps) (length D)
  sum_is t e = omega (arith, ints, e, least_listed D ps (length D) o a)

  pub fails_closed : (first : ℕ) (t : ℤ) → IsNextOpen D ps 0 first → first ≡ length ps → t ≡ k +ℤ least_sum D ps → t ≡ pos 0 → HasFailed (is_zero (factor_in ps) k) D
  fails_closed first t p e q z G g =
      let u : k +ℤ least_weighted D (factor_in ps) (length D) ≡ pos 0 = sym (sum_is t q) ∙ z in
      let d = closed_whole D (factor_in ps) k (all_closed first p e) ∙ is_there_zero (k +ℤ least_weighted D (factor_in ps) (length D)) u in
      let i = (zero_falls (factor_in ps) k).falls G D g.stable.full g.within d in
      let j = g.stable.spared in
      cc

  pub ends_closed : (first : ℕ) (t : ℤ) → IsNextOpen D ps 0 first → first ≡ length ps → t ≡ k +ℤ least_sum D ps → t ≢ pos 0 → IsGreatestStable (is_zero (factor_in ps) k) D D
  ends_closed first t p e q n = nothing_gone (is_zero (factor_in ps) k) D (stable_closed D (factor_in ps) k f.full (all_closed first p e) (λ z. n (sum_is t q ∙ z)))

  there_at : (i : ℕ) → i < length ps → key ps i < length D
  there_at i h = among_at (length D) ps i a h

  -- whether the family leaves the form 0 alone
  zero_closed : (first : ℕ) (t : ℤ) → IsNextOpen D ps 0 first → first ≡ length ps → t ≡ k +ℤ least_sum D ps → is_zero (factor_in ps) k D ≡ int_eq t (pos 0)
  zero_closed first t p e q = closed_whole D (factor_in ps) k (all_closed first p e) ∙ ap (λ z. int_eq z (pos 0)) (sym (sum_is t q))

  pub zero_is : (first : ℕ) (t : ℤ) → IsNextOpen D ps 0 first → first ≡ length ps → t ≡ k +ℤ least_sum D ps → t ≡ pos 0 → is_zero (factor_in ps) k D ≡ true
  zero_is first t p e q z = zero_closed first t p e q ∙ is_there_zero t z

  pub zero_misses : (first : ℕ) (t : ℤ) → IsNextOpen D ps 0 first → first ≡ length ps → t ≡ k +ℤ least_sum D ps → t ≢ pos 0 → is_zero (factor_in ps) k D ≡ false
  zero_misses first t p e q n = zero_closed first t p e q ∙ not_zero t n

  pub zero_open : (first : ℕ) → IsNextOpen D ps 0 first → first < length ps → is_zero (factor_in ps) k D ≡ false
  zero_open first p h = open_spares D (factor_in ps) k (key ps first) (there_at first h) (open_at D ps first o s h (p.has_more h))

  pub ends_two : (first second : ℕ) → IsNextOpen D ps 0 first → IsNextOpen D ps (first + 1) second → first < length ps → second < length ps → IsGreatestStable (is_zero (factor_in ps) k) D D
  ends_two first second p q h i = nothing_gone (is_zero (factor_in ps) k) D (stable_two D (factor_in ps) k (key ps first) (key ps second) f.full (there_at first h) (there_at second i)
      (keys_apart ps first second o (omega (arith, q.least)) i) (open_at D ps first o s h (p.has_more h)) (open_at D ps second o s i (q.has_more i)))

  -- one part is open
  one_open : (first second : ℕ) → IsNextOpen D ps 0 first → IsNextOpen D ps (first + 1) second → first < length ps → length ps ≤ second → (y : ℕ) → y < length D → y ≢ key ps first → IsClosed D (factor_in ps) y
  one_open first second p q h i y l n = closed_else D ps first (λ j d b. elim (cases_eq_or j first) [ inl w ↦ p.skipped j (omega arith) w | inr w ↦ q.skipped j (omega (arith, w, d)) (omega (arith, b, i)) ]) y (λ b. n)
    where
      cases_eq_or : (j m : ℕ) → (j < m) ⊎ (m ≤ j)
      cases_eq_or j m = grind arith

  rest_is : (first : ℕ) (r t : ℤ) → first < length ps → t ≡ k +ℤ least_sum D ps → r ≡ t +ℤ neg_ℤ (least_product (get_or ps first (0, pos 0)).1 (hull D (key ps first))) → others D (factor_in ps) k (key ps first) ≡ r
  rest_is first r t h q e = let w = ap (λ z. least_product z (hull D (key ps first))) (factor_at ps first o h) in omega (arith, ints, e, w, sum_is t q)

  pub spared_one : (first second : ℕ) (r t : ℤ) → IsNextOpen D ps 0 first → IsNextOpen D ps (first + 1) second → first < length ps → length ps ≤ second → t ≡ k +ℤ least_sum D ps → r ≡ t +ℤ neg_ℤ (least_product (get_or ps first (0, pos 0)).1 (hull D (key ps first)))
      → ((w : ℤ) → has D (key ps first) w ≡ true → (r +ℤ ((get_or ps first (0, pos 0)).1 *ℤ w)) ≢ pos 0) → IsGreatestStable (is_zero (factor_in ps) k) D D
  spared_one first second r t p q h i e g n =
      nothing_gone (is_zero (factor_in ps) k) D (stable_one D (factor_in ps) k (key ps first) f.full (there_at first h) (one_open first second p q h i)
      (λ w m z. n w m (ap (λ u. u +ℤ ((get_or ps first (0, pos 0)).1 *ℤ w)) (sym (rest_is first r t h e g)) ∙ ap (λ u. others D (factor_in ps) k (key ps first) +ℤ (u *ℤ w)) (sym (factor_at ps first o h)) ∙ z)))

  module _ (first second : ℕ) (r t : ℤ) (p : IsNextOpen D ps 0 first) (q : IsNextOpen D ps (first + 1) second) (h : first < length ps) (i : length ps ≤ second) (e : t ≡ k +ℤ least_sum D ps)
      (g : r ≡ t +ℤ neg_ℤ (least_product (get_or ps first (0, pos 0)).1 (hull D (key ps first)))) (G : Family) (w : HasAvoided D G (key ps first) (get_or ps first (0, pos 0)).1 r) where
    zero_as : (v : ℤ) → (others D (factor_in ps) k (key ps first) +ℤ (factor_in ps (key ps first) *ℤ v)) ≡ (r +ℤ ((get_or ps first (0, pos 0)).1 *ℤ v))
    zero_as v = ap (λ u. u +ℤ (factor_in ps (key ps first) *ℤ v)) (rest_is first r t h e g) ∙ ap (λ u. r +ℤ (u *ℤ v)) (factor_at ps first o h)

    gone_one : IsLeftOf (is_zero (factor_in ps) k) D G
    gone_one = subst (λ H. IsLeftOf (is_zero (factor_in ps) k) D H) (sym w.left) (left_one (is_zero (factor_in ps) k) D (key ps first) w.value (record {
      dead_value = record {
        variable = there_at first h;
        value = w.had;
        is_dead = value_only D (factor_in ps) k (key ps first) w.value (there_at first h) (one_open first second p q h i) ∙ is_there_zero _ (zero_as w.value ∙ w.zero);
      };
      stays = w.stays;
    }))

    cut_stable : IsStable (is_zero (factor_in ps) k) (cut_of D (key ps first) w.value w.value)
    cut_stable =
        let x = key ps first in
        let c = factor_in ps in
        let C = cut_of D x w.value w.value in
        let there = there_at first h in
        let sets = cut_is_family D x w.value w.value f there w.stays in
        let closed : (y : ℕ) → y < length C → y ≢ x → IsClosed C c y = λ y l n. closed_as D C c y (hull_kept D x y w.value w.value n) (one_open first second p q h i y (omega (arith, l, length-cut D x w.value w.value)) n) in
        let b = least_other D C c c x (length D) there (λ y n. ap (least_product (c y)) (sym (hull_kept D x y w.value w.value n))) in
        let d = ap (λ n. least_weighted C c n) (length-cut D x w.value w.value) in
        let same : others C c k x ≡ others D c k x = omega (arith, ints, b, d) in
        stable_one C c k x sets.full (omega (arith, there, length-cut D x w.value w.value)) closed (λ u m z.
        let j = from_run D x w.value w.value u there m in
        let y = w.alone u (sym (zero_as u) ∙ ap (λ v. v +ℤ (c x *ℤ u)) (sym same) ∙ z) in
        outside_itself u w.value y j.1)

    pub ends_one : IsGreatestStable (is_zero (factor_in ps) k) D G
    ends_one = record {
      is_stable = record { stable = subst (λ H. IsStable (is_zero (factor_in ps) k) H) (sym w.left) cut_stable; within = left_below (is_zero (factor_in ps) k) D G gone_one };
      most = λ H s. (left_kept (is_zero (factor_in ps) k) D G (zero_falls (factor_in ps) k) gone_one).above H s.stable s.within;
    }

    pub between_one : IsBetween (is_zero (factor_in ps) k) D G
    between_one = record { removals = gone_one; below = left_below (is_zero (factor_in ps) k) D G gone_one; sets = left_sets (is_zero (factor_in ps) k) D G f gone_one }

  -- either way
  pub ends_avoided : (first second : ℕ) (r t : ℤ) → IsNextOpen D ps 0 first → IsNextOpen D ps (first + 1) second → first < length ps → length ps ≤ second → t ≡ k +ℤ least_sum D ps → r ≡ t +ℤ neg_ℤ (least_product (get_or ps first (0, pos 0)).1 (hull D (key ps first)))
      → (G : Family) (b : Bool) → Avoids D G (key ps first) (get_or ps first (0, pos 0)).1 r b → IsGreatestStable (is_zero (factor_in ps) k) D G × IsBetween (is_zero (factor_in ps) k) D G
  ends_avoided first second r t p q h i e g G false w = subst (λ H. IsGreatestStable (is_zero (factor_in ps) k) D H × IsBetween (is_zero (factor_in ps) k) D H) (sym w.0)
      (spared_one first second r t p q h i e g w.1, nothing_between (is_zero (factor_in ps) k) D f)
  ends_avoided first second r t p q h i e g G true w = (ends_one first second r t p q h i e g G w, between_one first second r t p q h i e g G w)

-- ---- another value stays

ends_among : (xs : List ℤ) → (hull_of xs).low <ℤ (hull_of xs).high → (member (hull_of xs).low xs ≡ true) × (member (hull_of xs).high xs ≡ true)
unfolding hull_of
ends_among [] h = absurd (omega (arith, ints, h))
ends_among (v ∷ xs) h = (least_member v xs, greatest_member v xs)

hull_ends : (F : Family) (x : ℕ) → (hull F x).low <ℤ (hull F x).high → (has F x (hull F x).low ≡ true) × (has F x (hull F x).high ≡ true)
unfolding hull
hull_ends F x h = ends_among (set_of F x) h

apart_ends : (l h v : ℤ) → l <ℤ h → (l ≢ v) ⊎ (h ≢ v)
apart_ends l h v o = elim (int_eq l v) as (λ b. int_eq l v ≡ b → (l ≢ v) ⊎ (h ≢ v)) [
  | true ↦ λ e. let s = (Decides-int_eq l v).0 e in inr (λ i. omega (arith, ints, s, i, o))
  | false ↦ λ e. inl (λ i. let t = (Decides-int_eq l v).1 i in cc)
] refl

outside_other : (u v : ℤ) → u ≢ v → is_outside v v u ≡ true
unfolding is_outside
outside_other u v n = grind (arith, ints)

pub another_stays : (F : Family) (x : ℕ) (v : ℤ) → x < length F → (hull F x).low <ℤ (hull F x).high → (w : ℤ) × (has (cut_of F x v v) x w ≡ true)
another_stays F x v k h =
    let m = hull_ends F x h in
    elim (apart_ends (hull F x).low (hull F x).high v h) [
      | inl n ↦ ((hull F x).low, in_run F x v v (hull F x).low k m.0 (outside_other (hull F x).low v n))
      | inr n ↦ ((hull F x).high, in_run F x v v (hull F x).high k m.1 (outside_other (hull F x).high v n))
    ]

-- ---- as the code sees it

pub open_ends : (F : Family) (x : ℕ) (l h : ℤ) → IsLeast (set_of F x) l → IsGreatest (set_of F x) h → l <ℤ h → Fixes F x false
unfolding hull
open_ends F x l h p q o = omega (arith, ints, least_hull (set_of F x) l p, greatest_hull (set_of F x) h q, o)

pub fixed_ends : (F : Family) (x : ℕ) (l h : ℤ) → IsLeast (set_of F x) l → IsGreatest (set_of F x) h → h ≤ℤ l → Fixes F x true
unfolding hull
fixed_ends F x l h p q o = omega (arith, ints, least_hull (set_of F x) l p, greatest_hull (set_of F x) h q, o, p.least h q.among)

pub before_end : (a b : ℕ) → a ≤ b → (a ≡ b → ⊥) → a < b
before_end a b h n = elim (cases_eq a b) [ inl e ↦ absurd (n e) | inr d ↦ omega (arith, h, d) ]

pub avoids_none : (F : Family) (x : ℕ) (a r : ℤ) → IsRoot r a None → Avoids F F x a r false
avoids_none F x a r n = (refl, λ w m. n w)

pub avoids_missing : (F : Family) (x : ℕ) (a r v : ℤ) → IsRoot r a (Some v) → has F x v ≡ false → Avoids F F x a r false
avoids_missing F x a r v i n = (refl, λ w m z. let e = ap (has F x) ((i w).0 z) in cc)

pub avoids_value : (F G : Family) (x : ℕ) (a r v w : ℤ) → x < length F → (hull F x).low <ℤ (hull F x).high → IsRoot r a (Some v) → w ≡ v → has F x v ≡ true → G ≡ cut_of F x w w → Avoids F G x a r true
avoids_value F G x a r v w h o i e m g = record {
  value = w;
  had = subst (λ u. has F x u ≡ true) (sym e) m;
  zero = (i w).1 e;
  alone = λ u z. (i u).0 z ∙ sym e;
  left = g;
  stays = another_stays F x w h o;
}

pub open_first : (F : Family) (ps : List (ℕ × ℤ)) (from : ℕ) → from ≤ length ps → (i : ℕ) → from ≤ i → i < from → Fixes F (variable_at ps i) true
open_first F ps from h i a b = absurd (omega (arith, a, b))

last_or_before : (j i : ℕ) → j < i + 1 → (j ≡ i) ⊎ (j < i)
last_or_before j i h = grind arith

pub next_fixed : (F : Family) (ps : List (ℕ × ℤ)) (from at : ℕ) (b : Bool) → ((i : ℕ) → from ≤ i → i < at → Fixes F (variable_at ps i) true) → Fixes F (variable_at ps at) b → b ≡ true → (i : ℕ) → from ≤ i → i < at + 1 → Fixes F (variable_at ps i) true
next_fixed F ps from at b s f e i l m = elim (last_or_before i at m) [
  | inl q ↦ subst (λ j. (hull F (variable_at ps j)).low ≡ (hull F (variable_at ps j)).high) (sym q) (subst (λ c. Fixes F (variable_at ps at) c) e f)
  | inr q ↦ s i l q
]

pub open_here : (F : Family) (ps : List (ℕ × ℤ)) (from at : ℕ) (b : Bool) → from ≤ at → at < length ps → ((i : ℕ) → from ≤ i → i < at → Fixes F (variable_at ps i) true) → Fixes F (variable_at ps at) b → b ≡ false → IsNextOpen F ps from at
open_here F ps from at b l h s f e = record { least = l; most = omega (arith, h); skipped = s; has_more = λ k. subst (λ c. Fixes F (variable_at ps at) c) e f }

pub open_end : (F : Family) (ps : List (ℕ × ℤ)) (from at : ℕ) → from ≤ at → at ≤ length ps → ((i : ℕ) → from ≤ i → i < at → Fixes F (variable_at ps i) true) → length ps ≤ at → IsNextOpen F ps from at
open_end F ps from at l h s e = record { least = l; most = h; skipped = s; has_more = λ k. absurd (omega (arith, k, e)) }
