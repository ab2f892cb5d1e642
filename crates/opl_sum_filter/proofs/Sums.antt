-- Where the greatest values together are at most the limit, each family within has an assignment on which the constraint holds.
use Rattle.std.proofs.Common.{◌≡◌, ℕ, zero, suc, ◌-◌, ◌<◌, ◌≤◌, true, false, ◌&&◌, cond, refl, List, [], ◌∷◌, map, length, get_or, drop, ℤ, pos, ◌+ℤ◌, ◌≤ℤ◌, ap, sym, ◌∙◌, subst, arith, inl, inr}
use Rattle.std.specs.Prelude.{int_le, Option, Some, None}
use Rattle.std.proofs.lemmas.Int.{ints}
use Rattle.std.proofs.lemmas.List.{length-map}
use Rattle.opl_domain.specs.Span.{hull_of, greatest_of, values}
use Rattle.opl_domain.specs.Family.{Family, IsFamily, IsGreatest, Below, Full, member, set_of, has, only, hull}
use Rattle.opl_domain.proofs.Sets.{only_is_family, not_le}
use Rattle.opl_domain.proofs.Members.{member_cases, greatest_member, greatest_is}
use Rattle.opl_expr.specs.declared.model.Core.{Core}
use Rattle.opl_expr.specs.Forms.{Term, Fact, terms_of}
use Rattle.opl_expr.specs.Options.{lift, lift_all}
use Rattle.opl_expr.specs.Holds.{value_at, all_values, holds}
use Rattle.opl_expr.specs.Laws.{singles, all_clear}
use Rattle.opl_expr.specs.Sound.{AreSoundTerms, IsSoundFact}
use Rattle.opl_expr.specs.Solutions.{declared}
use Rattle.opl_expr.proofs.Comparisons.{hull_in}
use Rattle.opl_expr.proofs.Parts.{drop_at, one_less, any_default}
use Rattle.opl_expr.proofs.SingleValues.{none_refuted}
use Rattle.opl_trace.specs.Stable.{IsGreatestStable}
use Rattle.opl_trace.proofs.Families.{below_self, only_below}
use Rattle.opl_filter.specs.Filtering.{refutes, IsBetween}
use Rattle.opl_filter.proofs.Removals.{left_self}
use Rattle.opl_sum_filter.specs.Sums.{total_most, at_most_limit, IsMost, AreAmong}

-- ---- variables that are there

sound_among : (sets : List (ℤ × ℤ)) (xs : List ℕ) → AreSoundTerms sets (terms_of (map Term.var xs)) → AreAmong (length sets) xs
sound_among sets [] s k h = absurd (omega (arith, h))
sound_among sets (x ∷ xs) s zero h = s.0.1
sound_among sets (x ∷ xs) s (suc k) h = sound_among sets xs s.1 k (omega (arith, h))

count_is : (core : Core) (F : Family) → Below F (declared core) → length F ≡ length core.sets
unfolding declared
count_is core F b = b.same ∙ length-map core.sets (λ p. values (record { low = p.0; high = p.1 }))

pub are_among : (core : Core) (F : Family) (xs : List ℕ) (k : ℤ) (c : Fact) → c ≡ at_most_limit xs k → IsSoundFact core.sets c → Below F (declared core) → AreAmong (length F) xs
are_among core F xs k c e s b =
    let t : IsSoundFact core.sets (at_most_limit xs k) = subst (IsSoundFact core.sets) e s in
    subst (λ n. AreAmong n xs) (sym (count_is core F b)) (sound_among core.sets xs t.1.1)

pub among_below : (F G : Family) (xs : List ℕ) → Below G F → AreAmong (length F) xs → AreAmong (length G) xs
among_below F G xs b a = subst (λ n. AreAmong n xs) (sym b.same) a

-- ---- the sum, from the right on

high_of : (vs : List ℤ) (m : ℤ) → IsGreatest vs m → (hull_of vs).high ≡ m
unfolding hull_of
high_of [] m g = let h = g.among in cc
high_of (v ∷ vs) m g = omega (arith, ints, greatest_is v vs m g.among, g.most (greatest_of v vs) (greatest_member v vs))

high_is : (F : Family) (x : ℕ) (m : ℤ) → IsGreatest (set_of F x) m → (hull F x).high ≡ m
unfolding hull
high_is F x m g = high_of (set_of F x) m g

pub more_total : (F : Family) (xs : List ℕ) (L x : ℕ) (t m s : ℤ) → 0 < L → L ≤ length xs → x ≡ get_or xs (L - 1) x → t ≡ total_most F (drop L xs) → IsGreatest (set_of F x) m → s ≡ t +ℤ m → s ≡ total_most F (drop (L - 1) xs)
more_total F xs L x t m s p h e i g j =
    let d = subst (λ k. drop (L - 1) xs ≡ x ∷ drop k xs) (one_less L p) (drop_at xs (L - 1) x (omega (arith, p, h)) e) in
    let k : s ≡ (hull F x).high +ℤ total_most F (drop L xs) = omega (arith, ints, i, j, high_is F x m g) in
    k ∙ ap (total_most F) (sym d)

pub is_among : (n : ℕ) (xs : List ℕ) (L x : ℕ) → 0 < L → L ≤ length xs → x ≡ get_or xs (L - 1) x → AreAmong n xs → x < n
is_among n xs L x p h e a = subst (λ y. y < n) (sym e ∙ refl) (subst (λ y. y < n) (any_default xs (L - 1) 0 x (omega (arith, p, h))) (a (L - 1) (omega (arith, p, h))))

-- ---- the greatest values as an assignment

abbrev highs : Family → List ℤ
highs F = map (λ vs. (hull_of vs).high) F

value_high : (F : Family) (x : ℕ) → value_at (highs F) x ≡ (hull F x).high
unfolding hull set_of hull_of
value_high [] x = refl
value_high (vs ∷ F) zero = refl
value_high (vs ∷ F) (suc x) = value_high F x

high_member : (vs : List ℤ) (w : ℤ) → member w vs ≡ true → member (hull_of vs).high vs ≡ true
unfolding hull_of
high_member [] w h = cc
high_member (v ∷ vs) w h = greatest_member v vs

highs_sub : (F : Family) → Full F → (x : ℕ) (v : ℤ) → has (singles (highs F)) x v ≡ true → has F x v ≡ true
unfolding set_of
highs_sub [] f x v h = cc
highs_sub (vs ∷ F) f zero v h =
    let w = f 0 (omega arith) in
    elim (member_cases v (hull_of vs).high [] h) [ inl e ↦ subst (λ u. member u vs ≡ true) (sym e) (high_member vs w.0 w.1) | inr n ↦ cc ]
highs_sub (vs ∷ F) f (suc x) v h = highs_sub F (λ y l. f (suc y) (omega (arith, l))) x v h

length-highs : (F : Family) → length (singles (highs F)) ≡ length F
length-highs [] = refl
length-highs (vs ∷ F) = ap suc (length-highs F)

highs_below : (F : Family) → Full F → Below (singles (highs F)) F
highs_below F f = record { sub = highs_sub F f; same = length-highs F }

-- the values of variables together
abbrev sum_at : List ℤ → List ℕ → ℤ
sum_at a [] = pos 0
sum_at a (x ∷ xs) = value_at a x +ℤ sum_at a xs

sum_value : (a : List ℤ) (xs : List ℕ) → lift_all ◌+ℤ◌ (pos 0) (all_values a (terms_of (map Term.var xs))) ≡ Some (sum_at a xs)
sum_value a [] = refl
sum_value a (x ∷ xs) = ap (lift ◌+ℤ◌ (Some (value_at a x))) (sum_value a xs)

sums_within : (F G : Family) → Full G → Below G F → (xs : List ℕ) → sum_at (highs G) xs ≤ℤ total_most F xs
sums_within F G f b [] = omega (arith, ints)
sums_within F G f b (x ∷ xs) = let i = hull_in G F f b x in omega (arith, ints, value_high G x, i.high.most, sums_within F G f b xs)

is_at_most : (u v : ℤ) → u ≤ℤ v → int_le u v ≡ true
is_at_most u v h = elim (int_le u v) as (λ b. int_le u v ≡ b → b ≡ true) [ true ↦ λ e. refl | false ↦ λ e. let n = not_le u v e in absurd (omega (arith, ints, n, h)) ] refl

highs_hold : (F G : Family) (xs : List ℕ) (k : ℤ) → Full G → Below G F → total_most F xs ≤ℤ k → holds (highs G) (at_most_limit xs k) ≡ Some true
highs_hold F G xs k f b h =
    ap (λ o. lift int_le o (Some k)) (sum_value (highs G) xs)
    ∙ ap (λ t. Some t) (is_at_most (sum_at (highs G) xs) k (omega (arith, ints, sums_within F G f b xs, h)))

clear_vars : (xs : List ℕ) → all_clear (terms_of (map Term.var xs)) ≡ true
clear_vars [] = refl
clear_vars (x ∷ xs) = clear_vars xs

not_refuted : (F G : Family) (xs : List ℕ) (k : ℤ) → Full G → Below G F → total_most F xs ≤ℤ k → refutes (at_most_limit xs k) G ≡ false
not_refuted F G xs k f b h =
    ap (λ t. cond t false true)
    (none_refuted (at_most_limit xs k) (highs G) G (ap (λ t. t && true) (clear_vars xs)) (highs_hold F G xs k f b h) (highs_below G f))

-- ---- nothing is to be removed

pub settled : (F : Family) (xs : List ℕ) (k : ℤ) (c : Fact) → c ≡ at_most_limit xs k → IsFamily F → total_most F xs ≤ℤ k → IsGreatestStable (refutes c) F F
settled F xs k c e f h = subst (λ d. IsGreatestStable (refutes d) F F) (sym e) (record {
  is_stable = record {
    stable = record {
      full = f.full;
      spared = not_refuted F F xs k f.full (below_self F) h;
      each = λ x v l m. not_refuted F (only F x v) xs k (only_is_family F x v f).full (only_below F x v m) h;
    };
    within = below_self F;
  };
  most = λ G s. s.within;
})

pub untouched : (c : Fact) (F : Family) → IsFamily F → IsBetween (refutes c) F F
untouched c F f = record { removals = left_self (refutes c) F; below = below_self F; sets = f }

pub kept_is : (m : Option ℤ) (F : Family) (xs : List ℕ) (s : ℤ) → m ≡ Some s → IsMost m F xs → s ≡ total_most F xs
kept_is None F xs s e i = cc
kept_is (Some t) F xs s e i = let k : t ≡ s = cc in sym k ∙ i
