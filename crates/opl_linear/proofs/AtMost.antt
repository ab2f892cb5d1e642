-- One pass over the variables of a form that is to be at most 0.
use Rattle.std.proofs.Common.{◌≡◌, ◌≢◌, ◌∙◌, ◌⊎◌, ℕ, zero, suc, ◌+◌, ◌*◌, ◌<◌, ◌≤◌, Bool, true, false, ◌||◌, refl, List, [], ◌∷◌, take, length, ℤ, pos, ◌+ℤ◌, ◌*ℤ◌, neg_ℤ, ◌≤ℤ◌, ◌<ℤ◌, get_or, ap, sym, subst, arith, inl, inr}
use Rattle.std.specs.Prelude.{int_lt, nat_eq, unsigned_abs, FitsSigned}
use mir.Syntax.{w128}
use Rattle.std.proofs.lemmas.Int.{ints}
use Rattle.std.proofs.lemmas.Bool.{cases_eq}
use Rattle.std.proofs.lemmas.Bool.Decides.{Decides-eqb}
use Rattle.opl_domain.specs.Span.{Span, magnitude, hull_of}
use Rattle.opl_domain.specs.Family.{Family, IsFamily, Full, Below, has, hull, only, cut_of, is_outside}
use Rattle.opl_domain.proofs.Sets.{cut_there}
use Rattle.opl_expr.specs.Sound.{IsSmall}
use Rattle.opl_expr.proofs.Comparisons.{weighted_in}
use Rattle.opl_range.proofs.Bounds.{scale_bound}
use Rattle.opl_trace.specs.Stable.{IsMonotone, IsGreatestStable, HasFailed}
use Rattle.opl_trace.proofs.Families.{has_at}
use Rattle.opl_filter.specs.Filtering.{IsLeftOf, IsBetween}
use Rattle.opl_filter.specs.Laws.{IsDeadRun}
use Rattle.opl_filter.proofs.Removals.{left_self, left_join, left_sets, left_below, left_kept}
use Rattle.opl_filter.proofs.Runs.{runs_can_go}
use Rattle.opl_linear.specs.Alternating.{Changes}
use Rattle.opl_trace.specs.Sweeps.{size}
use Rattle.opl_trace.proofs.Removals.{cut_smaller}
use Rattle.opl_domain.proofs.Sets.{cut_here}
use Rattle.opl_domain.proofs.Members.{from_filter}
use Rattle.opl_filter.specs.Filtering.{without, EachCanGo}
use Rattle.opl_domain.specs.Family.{member, set_of}
use Rattle.opl_linear.specs.Linear.{factor_in, names, NamesOnce, AreAmong, AreFactors, least_product, least_sum, least_weighted, is_above, limit, bulk}
use Rattle.opl_linear.specs.Trimming.{AreNear, HasLostRun, Trims, constant_for, IsTrimmedTo}
use Rattle.opl_linear.proofs.Sums.{nothing_product, least_same, least_listed, unnamed, is_above_only, factor_here, factor_there}

-- ---- the test

below_too : (s t k : ℤ) → s ≤ℤ t → int_lt (pos 0) (k +ℤ s) ≡ true → int_lt (pos 0) (k +ℤ t) ≡ true
below_too s t k h e = grind (arith, ints)

lower_end : (F G : Family) → Full F → Below F G → (c : ℕ → ℤ) (n : ℕ) → least_weighted G c n ≤ℤ least_weighted F c n
unfolding least_weighted
lower_end F G f b c n = (weighted_in F G f b c n).low.least

pub above_falls : (c : ℕ → ℤ) (k : ℤ) → IsMonotone (is_above c k)
unfolding is_above
above_falls c k = record {
  falls = λ F G f b h. below_too (least_weighted G c (length F)) (least_weighted F c (length F)) k (lower_end F G f b c (length F)) (subst (λ n. int_lt (pos 0) (k +ℤ least_weighted G c n) ≡ true) (sym b.same) h);
}

-- ---- places of the list

pub factor_at : (ps : List (ℕ × ℤ)) (j : ℕ) → NamesOnce ps → j < length ps → factor_in ps (get_or ps j (0, pos 0)).0 ≡ (get_or ps j (0, pos 0)).1
factor_at [] j o h = absurd (omega (arith, h))
factor_at (p ∷ ps) zero o h = factor_here p ps o.0
factor_at (p ∷ ps) (suc j) o h =
    let named = named_at ps j (omega (arith, h)) in
    factor_there p ps (get_or ps j (0, pos 0)).0 (λ e. let t = subst (λ x. names ps x ≡ true) e named in let f = o.0 in cc) ∙ factor_at ps j o.1 (omega (arith, h))
  where
    first_named : (x : ℕ) (b : Bool) → (nat_eq x x || b) ≡ true
    first_named x b = ap (λ c. c || b) ((Decides-eqb x x).1 refl)

    or_true : (a b : Bool) → b ≡ true → (a || b) ≡ true
    or_true true b e = refl
    or_true false b e = e

    named_at : (ps : List (ℕ × ℤ)) (j : ℕ) → j < length ps → names ps (get_or ps j (0, pos 0)).0 ≡ true
    named_at [] j h = absurd (omega (arith, h))
    named_at (p ∷ ps) zero h = first_named p.0 (names ps p.0)
    named_at (p ∷ ps) (suc j) h = or_true (nat_eq (get_or ps j (0, pos 0)).0 p.0) (names ps (get_or ps j (0, pos 0)).0) (named_at ps j (omega (arith, h)))

-- the place of a variable
pub record IsPlaceOf (ps : List (ℕ × ℤ)) (x : ℕ) : Type 0 where
  pub place : ℕ
  pub there : place < length ps
  pub is : x ≡ (get_or ps place (0, pos 0)).0

pub place_of : (ps : List (ℕ × ℤ)) (x : ℕ) → names ps x ≡ true → IsPlaceOf ps x
place_of [] x h = cc
place_of (p ∷ ps) x h = elim (nat_eq x p.0) as (λ b. nat_eq x p.0 ≡ b → (b || names ps x) ≡ true → IsPlaceOf (p ∷ ps) x) [
  | true ↦ λ e t. record { place = 0; there = omega arith; is = (Decides-eqb x p.0).0 e }
  | false ↦ λ e t. let r = place_of ps x t in record { place = suc r.place; there = omega (arith, r.there); is = r.is }
] refl h

pub among_at : (n : ℕ) (ps : List (ℕ × ℤ)) (j : ℕ) → AreAmong n ps → j < length ps → (get_or ps j (0, pos 0)).0 < n
among_at n [] j a h = absurd (omega (arith, h))
among_at n (p ∷ ps) zero a h = a.0
among_at n (p ∷ ps) (suc j) a h = among_at n ps j a.1 (omega (arith, h))

pub factors_at : (ps : List (ℕ × ℤ)) (j : ℕ) → AreFactors ps → j < length ps → ((get_or ps j (0, pos 0)).1 ≢ pos 0) × IsSmall (unsigned_abs (get_or ps j (0, pos 0)).1)
factors_at [] j a h = absurd (omega (arith, h))
factors_at (p ∷ ps) zero a h = (a.0, a.1)
factors_at (p ∷ ps) (suc j) a h = factors_at ps j a.2 (omega (arith, h))

-- ---- the sum that the code makes

product_bound : (k : ℤ) (a : Span) → unsigned_abs (least_product k a) ≤ unsigned_abs k * magnitude a
unfolding least_product
product_bound k a = omega (arith, scale_bound k a)

pub sum_more : (F : Family) (ps : List (ℕ × ℤ)) (j : ℕ) → j < length ps → least_sum F (take (suc j) ps) ≡ least_sum F (take j ps) +ℤ least_product (get_or ps j (0, pos 0)).1 (hull F (get_or ps j (0, pos 0)).0)
sum_more F [] j h = absurd (omega (arith, h))
sum_more F (p ∷ ps) zero h = omega (arith, ints)
sum_more F (p ∷ ps) (suc j) h = omega (arith, ints, sum_more F ps j (omega (arith, h)))

pub sum_bound : (F : Family) (ps : List (ℕ × ℤ)) (j : ℕ) → j < length ps → unsigned_abs (least_sum F (take j ps)) + unsigned_abs (get_or ps j (0, pos 0)).1 * magnitude (hull F (get_or ps j (0, pos 0)).0) ≤ bulk F ps
sum_bound F [] j h = absurd (omega (arith, h))
sum_bound F (p ∷ ps) zero h = omega arith
sum_bound F (p ∷ ps) (suc j) h = omega (arith, ints, sum_bound F ps j (omega (arith, h)), product_bound p.1 (hull F p.0))

pub whole_bound : (F : Family) (ps : List (ℕ × ℤ)) → unsigned_abs (least_sum F ps) ≤ bulk F ps
whole_bound F [] = omega arith
whole_bound F (p ∷ ps) = omega (arith, ints, whole_bound F ps, product_bound p.1 (hull F p.0))

-- the sum of the others is no greater
pub others_bound : (F : Family) (ps : List (ℕ × ℤ)) (j : ℕ) → j < length ps → unsigned_abs (least_sum F ps +ℤ neg_ℤ (least_product (get_or ps j (0, pos 0)).1 (hull F (get_or ps j (0, pos 0)).0))) ≤ bulk F ps
others_bound F [] j h = absurd (omega (arith, h))
others_bound F (p ∷ ps) zero h = omega (arith, ints, whole_bound F ps)
others_bound F (p ∷ ps) (suc j) h = omega (arith, ints, others_bound F ps j (omega (arith, h)), product_bound p.1 (hull F p.0))

-- ---- one variable is trimmed

pub hull_kept : (F : Family) (x y : ℕ) (lo hi : ℤ) → y ≢ x → hull (cut_of F x lo hi) y ≡ hull F y
unfolding hull
hull_kept F x y lo hi n = ap hull_of (cut_there F x y lo hi n)

-- the least products stay
lows_kept : (F G : Family) (c : ℕ → ℤ) (x : ℕ) (a s : ℤ) → c x ≡ a → HasLostRun F G x a s → (y : ℕ) → least_product (c y) (hull G y) ≡ least_product (c y) (hull F y)
lows_kept F G c x a s e r y = elim (cases_eq y x) [
  | inl i ↦ rw (i, e) r.low
  | inr n ↦ subst (λ H. least_product (c y) (hull H y) ≡ least_product (c y) (hull F y)) (sym r.cut) (ap (least_product (c y)) (hull_kept F x y r.lo r.hi n))
]

is_less : (x y : ℤ) → x <ℤ y → int_lt x y ≡ true
is_less x y h = grind (arith, ints)

not_less : (x y : ℤ) → y ≤ℤ x → int_lt x y ≡ false
not_less x y h = grind (arith, ints)

above_of : (s l a v : ℤ) → (l +ℤ s) <ℤ (a *ℤ v) → (t : ℤ) → t ≡ neg_ℤ s → int_lt (pos 0) (t +ℤ neg_ℤ l +ℤ (a *ℤ v)) ≡ true
above_of s l a v h t e = is_less (pos 0) (t +ℤ neg_ℤ l +ℤ (a *ℤ v)) (omega (arith, ints, h, e))

not_above_of : (s l a v : ℤ) → (a *ℤ v) ≤ℤ (l +ℤ s) → (t : ℤ) → t ≡ neg_ℤ s → int_lt (pos 0) (t +ℤ neg_ℤ l +ℤ (a *ℤ v)) ≡ false
not_above_of s l a v h t e = not_less (pos 0) (t +ℤ neg_ℤ l +ℤ (a *ℤ v)) (omega (arith, ints, h, e))

run_dead : (F G : Family) (c : ℕ → ℤ) (k : ℤ) (x : ℕ) (a s : ℤ) → c x ≡ a → k +ℤ least_weighted F c (length F) ≡ neg_ℤ s → (r : HasLostRun F G x a s) → IsDeadRun (is_above c k) F x r.lo r.hi
run_dead F G c k x a s e t r v m o =
    is_above_only F c k x v (has_at F x v m)
    ∙ above_of s (least_product (c x) (hull F x)) (c x) v (subst (λ z. (least_product z (hull F x) +ℤ s) <ℤ (z *ℤ v)) (sym e) (r.far v m o)) (k +ℤ least_weighted F c (length F)) t

pub left_run : (F G : Family) (c : ℕ → ℤ) (k : ℤ) (x : ℕ) (a s : ℤ) → IsFamily F → x < length F → c x ≡ a → k +ℤ least_weighted F c (length F) ≡ neg_ℤ s → HasLostRun F G x a s → IsLeftOf (is_above c k) F G
left_run F G c k x a s f h e t r =
    subst (λ H. IsLeftOf (is_above c k) F H) (sym r.cut)
    (runs_can_go (is_above c k) F x r.lo r.hi (above_falls c k) f h (run_dead F G c k x a s e t r) (subst (λ H. (w : ℤ) × (has H x w ≡ true)) r.cut r.stays))

-- ---- the pass

constant_is : (D F : Family) (ps : List (ℕ × ℤ)) (s : ℤ) → NamesOnce ps → AreAmong (length D) ps → length F ≡ length D → ((x : ℕ) → least_product (factor_in ps x) (hull F x) ≡ least_product (factor_in ps x) (hull D x))
    → constant_for D ps s +ℤ least_weighted F (factor_in ps) (length F) ≡ neg_ℤ s
constant_is D F ps s o a e l =
    let i = least_listed D ps (length D) o a in
    let j = least_same F D (factor_in ps) (factor_in ps) (length D) (λ y h. l y) in
    let k = ap (least_weighted F (factor_in ps)) e in
    omega (arith, ints, i, j, k)

pub trimmed_first : (D : Family) (ps : List (ℕ × ℤ)) (s : ℤ) → IsTrimmedTo D D ps s 0
trimmed_first D ps s = record { removals = left_self (is_above (factor_in ps) (constant_for D ps s)) D; same = refl; lows = λ x. refl; near = λ j h i. absurd (omega (arith, h)) }

-- what is near stays so where values go and the least product stays
near_later : (F G : Family) (x : ℕ) (a s : ℤ) → ((v : ℤ) → has G x v ≡ true → has F x v ≡ true) → least_product a (hull G x) ≡ least_product a (hull F x) → AreNear F x a s → AreNear G x a s
near_later F G x a s b e n v m = omega (arith, ints, e, n v (b v m))

last_or_before : (j i : ℕ) → j < i + 1 → (j ≡ i) ⊎ (j < i)
last_or_before j i h = grind arith

pub trimmed_next : (D F G : Family) (ps : List (ℕ × ℤ)) (s : ℤ) (i : ℕ) (b : Bool) → NamesOnce ps → AreAmong (length D) ps → IsFamily D → i < length ps → IsTrimmedTo D F ps s i
    → Trims F G (get_or ps i (0, pos 0)).0 (get_or ps i (0, pos 0)).1 s b → IsTrimmedTo D G ps s (i + 1)
trimmed_next D F G ps s i false o a f h t r = subst (λ H. IsTrimmedTo D H ps s (i + 1)) (sym r.0) (record {
  removals = t.removals;
  same = t.same;
  lows = t.lows;
  near = λ j k l. elim (last_or_before j i k) [
    | inl e ↦ subst (λ n. AreNear F (get_or ps n (0, pos 0)).0 (get_or ps n (0, pos 0)).1 s) (sym e) r.1
    | inr m ↦ t.near j m l
  ];
})
trimmed_next D F G ps s i true o a f h t r =
    let p = get_or ps i (0, pos 0) in
    let c = factor_in ps in
    let k = constant_for D ps s in
    let at = factor_at ps i o h in
    let there = among_at (length D) ps i a h in
    let sets = left_sets (is_above c k) D F f t.removals in
    let lost = left_run F G c k p.0 p.1 s sets (omega (arith, there, t.same)) at (constant_is D F ps s o a t.same t.lows) r in
    let kept = lows_kept F G c p.0 p.1 s at r in
    let below = left_below (is_above c k) F G lost in
    record {
      removals = left_join (is_above c k) D F G t.removals lost;
      same = below.same ∙ t.same;
      lows = λ x. kept x ∙ t.lows x;
      near = λ j b l. elim (last_or_before j i b) [
        | inl e ↦ subst (λ n. AreNear G (get_or ps n (0, pos 0)).0 (get_or ps n (0, pos 0)).1 s) (sym e) r.near
        | inr m ↦
            let q = get_or ps j (0, pos 0) in
            near_later F G q.0 q.1 s (below.sub q.0) (subst (λ z. least_product z (hull G q.0) ≡ least_product z (hull F q.0)) (factor_at ps j o l) (kept q.0)) (t.near j m l)
      ];
    }

-- ---- the end

pub spared_value : (D F : Family) (ps : List (ℕ × ℤ)) (s : ℤ) → NamesOnce ps → AreAmong (length D) ps → pos 0 ≤ℤ s → IsTrimmedTo D F ps s (length ps) → (x : ℕ) (v : ℤ) → x < length F → has F x v ≡ true
    → is_above (factor_in ps) (constant_for D ps s) (only F x v) ≡ false
spared_value D F ps s o a z t x v h m =
    let c = factor_in ps in
    let k = constant_for D ps s in
    let e = constant_is D F ps s o a t.same t.lows in
    is_above_only F c k x v h ∙ not_above_of s (least_product (c x) (hull F x)) (c x) v (near_any (names ps x) refl) (k +ℤ least_weighted F c (length F)) e
  where
    near_any : (b : Bool) → names ps x ≡ b → (factor_in ps x *ℤ v) ≤ℤ (least_product (factor_in ps x) (hull F x) +ℤ s)
    near_any true n =
        let r = place_of ps x n in
        let q = get_or ps r.place (0, pos 0) in
        let i : AreNear F q.0 q.1 s = t.near r.place r.there r.there in
        rw (r.is, factor_at ps r.place o r.there) (i v (subst (λ y. has F y v ≡ true) r.is m))
    near_any false n = rw (unnamed ps x n) (omega (arith, ints, nothing_product (hull F x), z))

spared_whole : (s t : ℤ) → pos 0 ≤ℤ s → t ≡ neg_ℤ s → int_lt (pos 0) t ≡ false
spared_whole s t z e = not_less (pos 0) t (omega (arith, ints, z, e))

spared_family : (D F : Family) (ps : List (ℕ × ℤ)) (s : ℤ) → NamesOnce ps → AreAmong (length D) ps → pos 0 ≤ℤ s → IsTrimmedTo D F ps s (length ps) → is_above (factor_in ps) (constant_for D ps s) F ≡ false
unfolding is_above
spared_family D F ps s o a z t = spared_whole s (constant_for D ps s +ℤ least_weighted F (factor_in ps) (length F)) z (constant_is D F ps s o a t.same t.lows)

pub trimmed_stable : (D F : Family) (ps : List (ℕ × ℤ)) (s : ℤ) → NamesOnce ps → AreAmong (length D) ps → IsFamily D → pos 0 ≤ℤ s → IsTrimmedTo D F ps s (length ps) → IsGreatestStable (is_above (factor_in ps) (constant_for D ps s)) D F
trimmed_stable D F ps s o a f z t =
    let dead = is_above (factor_in ps) (constant_for D ps s) in
    let sets = left_sets dead D F f t.removals in
    record {
      is_stable = record {
        stable = record { full = sets.full; spared = spared_family D F ps s o a z t; each = spared_value D F ps s o a z t };
        within = left_below dead D F t.removals;
      };
      most = λ G i. (left_kept dead D F (above_falls (factor_in ps) (constant_for D ps s)) t.removals).above G i.stable i.within;
    }

-- ---- as the code sees it

-- one more on both sides
pub limits : (b : Bool) (l k s : ℤ) → l ≡ k +ℤ s → limit b l ≡ limit b k +ℤ s
limits false l k s e = e
limits true l k s e = omega (arith, ints, e)

constant_back : (D : Family) (ps : List (ℕ × ℤ)) (k l s : ℤ) → l ≡ k +ℤ least_sum D ps → s ≡ neg_ℤ l → constant_for D ps s ≡ k
constant_back D ps k l s e f = omega (arith, ints, e, f)

pub stable_is : (D F : Family) (ps : List (ℕ × ℤ)) (k l s : ℤ) → NamesOnce ps → AreAmong (length D) ps → IsFamily D → pos 0 ≤ℤ s → l ≡ k +ℤ least_sum D ps → s ≡ neg_ℤ l → IsTrimmedTo D F ps s (length ps) → IsGreatestStable (is_above (factor_in ps) k) D F
stable_is D F ps k l s o a f z e g t = subst (λ i. IsGreatestStable (is_above (factor_in ps) i) D F) (constant_back D ps k l s e g) (trimmed_stable D F ps s o a f z t)

pub between_is : (D F : Family) (ps : List (ℕ × ℤ)) (k l s : ℤ) → IsFamily D → l ≡ k +ℤ least_sum D ps → s ≡ neg_ℤ l → IsTrimmedTo D F ps s (length ps) → IsBetween (is_above (factor_in ps) k) D F
between_is D F ps k l s f e g t =
    let dead = is_above (factor_in ps) k in
    let left = subst (λ i. IsLeftOf (is_above (factor_in ps) i) D F) (constant_back D ps k l s e g) t.removals in
    record { removals = left; below = left_below dead D F left; sets = left_sets dead D F f left }

pub nothing_between : (dead : Family → Bool) (D : Family) → IsFamily D → IsBetween dead D D
nothing_between dead D f = record { removals = left_self dead D; below = left_below dead D D (left_self dead D); sets = f }

above_whole : (D : Family) (ps : List (ℕ × ℤ)) (k l : ℤ) → NamesOnce ps → AreAmong (length D) ps → l ≡ k +ℤ least_sum D ps → pos 0 <ℤ l → is_above (factor_in ps) k D ≡ true
unfolding is_above
above_whole D ps k l o a e h = is_less (pos 0) (k +ℤ least_weighted D (factor_in ps) (length D)) (omega (arith, ints, e, h, least_listed D ps (length D) o a))

pub failed_is : (D : Family) (ps : List (ℕ × ℤ)) (k l : ℤ) → NamesOnce ps → AreAmong (length D) ps → l ≡ k +ℤ least_sum D ps → pos 0 <ℤ l → HasFailed (is_above (factor_in ps) k) D
failed_is D ps k l o a e h F s =
    let d = (above_falls (factor_in ps) k).falls F D s.stable.full s.within (above_whole D ps k l o a e h) in
    let i = s.stable.spared in
    cc

small_fits : (v : ℤ) → IsSmall (unsigned_abs v) → FitsSigned w128 v
small_fits v h = omega (arith, ints, h)

pub factor_fits : (ps : List (ℕ × ℤ)) (j : ℕ) → AreFactors ps → j < length ps → FitsSigned w128 (get_or ps j (0, pos 0)).1
factor_fits ps j a h = small_fits (get_or ps j (0, pos 0)).1 (factors_at ps j a h).1

pub sum_fits : (F : Family) (ps : List (ℕ × ℤ)) (j : ℕ) (s p : ℤ) → j < length ps → IsSmall (bulk F ps) → s ≡ least_sum F (take j ps) → p ≡ least_product (get_or ps j (0, pos 0)).1 (hull F (get_or ps j (0, pos 0)).0) → IsSmall (unsigned_abs s + unsigned_abs p)
sum_fits F ps j s p h b e f =
    let q = get_or ps j (0, pos 0) in
    rw (e, f) (omega (arith, sum_bound F ps j h, product_bound q.1 (hull F q.0), b))

pub part_fits : (F : Family) (ps : List (ℕ × ℤ)) (j : ℕ) → j < length ps → IsSmall (bulk F ps) → IsSmall (unsigned_abs (get_or ps j (0, pos 0)).1 * magnitude (hull F (get_or ps j (0, pos 0)).0))
part_fits F ps j h b = omega (arith, sum_bound F ps j h, b)

pub sum_next : (F : Family) (ps : List (ℕ × ℤ)) (j : ℕ) (r s p : ℤ) → j < length ps → r ≡ s +ℤ p → s ≡ least_sum F (take j ps) → p ≡ least_product (get_or ps j (0, pos 0)).1 (hull F (get_or ps j (0, pos 0)).0) → r ≡ least_sum F (take (j + 1) ps)
sum_next F ps j r s p h d e f = let n : j + 1 ≡ suc j = omega arith in rw n (omega (arith, ints, d, e, f, sum_more F ps j h))

-- ---- whether values have gone

each_smaller : (dead : Family → Bool) (D : Family) (gone : List (ℕ × ℤ)) → EachCanGo dead D gone → size (without D gone) + length gone ≤ size D
each_smaller dead D [] h = omega arith
each_smaller dead D (p ∷ gone) h = omega (arith, each_smaller dead (cut_of D p.0 p.1 p.1) gone h.1, cut_smaller D p.0 p.1 h.0.dead_value.value)

pub left_changes : (dead : Family → Bool) (D F : Family) → IsLeftOf dead D F → (F ≡ D → ⊥) → size F < size D
left_changes dead D F a n = rw a.left (some_gone a.gone a.each a.left)
  where
    some_gone : (gone : List (ℕ × ℤ)) → EachCanGo dead D gone → F ≡ without D gone → size (without D gone) < size D
    some_gone [] h e = absurd (n e)
    some_gone (p ∷ gone) h e = omega (arith, each_smaller dead D (p ∷ gone) h)

gone_differs : (F G : Family) (x : ℕ) (a s : ℤ) → x < length F → HasLostRun F G x a s → G ≡ F → ⊥
gone_differs F G x a s h r e =
    let m : has (cut_of F x r.lo r.hi) x r.gone ≡ true = subst (λ H. has H x r.gone ≡ true) (sym e ∙ r.cut) r.had in
    let o = (from_filter (is_outside r.lo r.hi) (set_of F x) r.gone (subst (λ vs. member r.gone vs ≡ true) (cut_here F x r.lo r.hi h) m)).1 in
    let i = r.within in
    cc

pub changes_next : (D F G : Family) (ps : List (ℕ × ℤ)) (s : ℤ) (i : ℕ) (b r : Bool) → NamesOnce ps → AreAmong (length D) ps → IsFamily D → i < length ps → IsTrimmedTo D F ps s i
    → Trims F G (get_or ps i (0, pos 0)).0 (get_or ps i (0, pos 0)).1 s r → Changes D F b → Changes D G (b || r)
changes_next D F G ps s i false false o a f h t u k = u.0 ∙ k
changes_next D F G ps s i true false o a f h t u k = subst (λ H. size H < size D) (sym u.0) k
changes_next D F G ps s i b true o a f h t u k =
    let p = get_or ps i (0, pos 0) in
    let c = factor_in ps in
    let d = is_above c (constant_for D ps s) in
    let there : p.0 < length F = omega (arith, among_at (length D) ps i a h, t.same) in
    let lost = left_run F G c (constant_for D ps s) p.0 p.1 s (left_sets d D F f t.removals) there (factor_at ps i o h) (constant_is D F ps s o a t.same t.lows) u in
    let less = left_changes d F G lost (gone_differs F G p.0 p.1 s there u) in
    any_less b k less
  where
    any_less : (b : Bool) → Changes D F b → size G < size F → Changes D G (b || true)
    any_less false k l = subst (λ H. size G < size H) k l
    any_less true k l = omega (arith, k, l)
