-- The ranges of what the uses of a resource demand, as the code makes them.
use Rattle.std.proofs.Common.{◌≡◌, ◌≢◌, ℕ, zero, suc, ◌+◌, ◌-◌, ◌*◌, ◌≤◌, ◌<◌, Bool, true, false, cond, ◌&&◌, refl, List, [], ◌∷◌, map, length, get_or, drop, ℤ, pos, negsuc, ◌+ℤ◌, ◌*ℤ◌, neg_ℤ, ◌≤ℤ◌, ap, sym, ◌∙◌, subst, arith, inl, inr}
use Rattle.std.specs.Prelude.{unsigned_abs, Some, int_le, int_lt, nat_eq}
use Rattle.std.proofs.Math.Nat.{mul-le-mul_left}
use Rattle.std.proofs.lemmas.Int.{ints, to_z-of_z}
use Rattle.std.specs.Prelude.{FitsSigned}
use Rattle.std.proofs.Common.{to_z, of_z}
use mir.Syntax.{w64, w128}
use Rattle.opl_domain.specs.Span.{Span, smaller, larger, magnitude, point, least_of, hull_of}
use Rattle.opl_domain.specs.Arithmetic.{span_add, span_neg, span_min, span_max}
use Rattle.opl_domain.specs.Family.{Family, set_of, hull, Below}
use Rattle.opl_domain.proofs.Members.{least_member, greatest_is}
use Rattle.opl_domain.proofs.Numbers.{smaller_tells, larger_tells}
use Rattle.opl_expr.specs.declared.model.Core.{Core}
use Rattle.opl_expr.specs.declared.tables.Use.{Use}
use Rattle.opl_expr.specs.declared.tables.Resource.{Resource}
use Rattle.opl_expr.specs.Forms.{Term, Fact, terms_of, plus, demand_at, capacity_at}
use Rattle.opl_expr.specs.Forms.Relation.{at_most, below}
use Rattle.opl_expr.specs.Options.{lift, lift1}
use Rattle.opl_expr.specs.Range.{verdict, span_scale, weighted, with_variables, compare, coefs, all_pure, rest, fact_range}
use Rattle.opl_expr.specs.Solutions.{declared}
use Rattle.opl_expr.specs.Sound.{IsSmall, var_magnitude, sum_magnitude, IsSoundTerm, AreSoundTerms, IsSoundFact}
use Rattle.opl_expr.proofs.Parts.{sum_loop, any_default}
use Rattle.opl_range.specs.Magnitudes.{IsTruth}
use Rattle.opl_range.proofs.Bounds.{add_bound, neg_bound, min_bound}
use Rattle.opl_range.proofs.Weights.{hulls_small, single, one_of, fact_truth, truth_bound}
use Rattle.opl_range.proofs.Roots.{zero_times}
use Rattle.opl_range.proofs.Parts.{part_before}
use Rattle.opl_range.proofs.Compare.{rest_small}

-- ---- variables that are there

length_map : {A B : Type 0} (f : A → B) (xs : List A) → length (map f xs) ≡ length xs
length_map f [] = refl
length_map f (x ∷ xs) = ap suc (length_map f xs)

pub count_is : (core : Core) (F : Family) → Below F (declared core) → length F ≡ length core.sets
unfolding declared
count_is core F b = b.same ∙ length_map (λ p. _) core.sets

pub is_inside : (core : Core) (F : Family) (x : ℕ) → Below F (declared core) → x < length core.sets → x < length F
is_inside core F x b h = omega (arith, h, count_is core F b)

-- ---- intervals

made : (l h m k : ℤ) → l ≡ m → h ≡ k → ◌≡◌ {A = Span} (record { low = l; high = h }) (record { low = m; high = k })
made l h m k p q = rw (p, q) refl

span_ext : (a b : Span) → a.low ≡ b.low → a.high ≡ b.high → a ≡ b
span_ext a b p q = made a.low a.high b.low b.high p q

smaller_is : (l h : ℤ) → l ≤ℤ h → smaller l h ≡ l
smaller_is l h o = elim (smaller_tells l h) [ inl t ↦ t.0 | inr t ↦ omega (arith, ints, t.0, t.1, o) ]

larger_is : (l h : ℤ) → l ≤ℤ h → larger l h ≡ h
larger_is l h o = elim (larger_tells l h) [ inl t ↦ t.0 | inr t ↦ omega (arith, ints, t.0, t.1, o) ]

smaller_back : (l h : ℤ) → h ≤ℤ l → smaller l h ≡ h
smaller_back l h o = elim (smaller_tells l h) [ inl t ↦ omega (arith, ints, t.0, t.1, o) | inr t ↦ t.0 ]

larger_back : (l h : ℤ) → h ≤ℤ l → larger l h ≡ l
larger_back l h o = elim (larger_tells l h) [ inl t ↦ omega (arith, ints, t.0, t.1, o) | inr t ↦ t.0 ]

one_times : (v : ℤ) → pos 1 *ℤ v ≡ v
one_times (pos n) = omega (arith, ints)
one_times (negsuc n) = omega (arith, ints)

minus_times : (v : ℤ) → negsuc 0 *ℤ v ≡ neg_ℤ v
minus_times (pos n) = omega (arith, ints)
minus_times (negsuc n) = omega (arith, ints)

twice_minus : (v : ℤ) → negsuc 1 *ℤ v ≡ neg_ℤ v +ℤ neg_ℤ v
twice_minus (pos n) = omega (arith, ints)
twice_minus (negsuc n) = omega (arith, ints)

pub scale_zero : (a : Span) → span_scale (pos 0) a ≡ point (pos 0)
unfolding span_scale
scale_zero a = rw (zero_times a.low, zero_times a.high) (made (smaller (pos 0) (pos 0)) (larger (pos 0) (pos 0)) (pos 0) (pos 0) (smaller_is (pos 0) (pos 0) (omega (arith, ints))) (larger_is (pos 0) (pos 0) (omega (arith, ints))))

scale_one : (a : Span) → a.low ≤ℤ a.high → span_scale (pos 1) a ≡ a
unfolding span_scale
scale_one a o = rw (one_times a.low, one_times a.high) (span_ext (record { low = smaller a.low a.high; high = larger a.low a.high }) a (smaller_is a.low a.high o) (larger_is a.low a.high o))

scale_minus : (a : Span) → a.low ≤ℤ a.high → span_scale (negsuc 0) a ≡ span_neg a
unfolding span_scale span_neg
scale_minus a o =
    rw (minus_times a.low, minus_times a.high) (made (smaller (neg_ℤ a.low) (neg_ℤ a.high)) (larger (neg_ℤ a.low) (neg_ℤ a.high)) (neg_ℤ a.high) (neg_ℤ a.low)
    (smaller_back (neg_ℤ a.low) (neg_ℤ a.high) (omega (arith, ints, o))) (larger_back (neg_ℤ a.low) (neg_ℤ a.high) (omega (arith, ints, o))))

scale_twice : (a : Span) → a.low ≤ℤ a.high → span_scale (negsuc 1) a ≡ span_add (span_neg a) (span_neg a)
unfolding span_scale span_neg span_add
scale_twice a o =
    rw (twice_minus a.low, twice_minus a.high)
    (made (smaller (neg_ℤ a.low +ℤ neg_ℤ a.low) (neg_ℤ a.high +ℤ neg_ℤ a.high)) (larger (neg_ℤ a.low +ℤ neg_ℤ a.low) (neg_ℤ a.high +ℤ neg_ℤ a.high)) (neg_ℤ a.high +ℤ neg_ℤ a.high) (neg_ℤ a.low +ℤ neg_ℤ a.low)
    (smaller_back (neg_ℤ a.low +ℤ neg_ℤ a.low) (neg_ℤ a.high +ℤ neg_ℤ a.high) (omega (arith, ints, o))) (larger_back (neg_ℤ a.low +ℤ neg_ℤ a.low) (neg_ℤ a.high +ℤ neg_ℤ a.high) (omega (arith, ints, o))))

pub add_zero : (a : Span) → span_add a (point (pos 0)) ≡ a
unfolding span_add
add_zero a = span_ext (record { low = a.low +ℤ pos 0; high = a.high +ℤ pos 0 }) a (omega (arith, ints)) (omega (arith, ints))

pub zero_add : (a : Span) → span_add (point (pos 0)) a ≡ a
unfolding span_add
zero_add a = span_ext (record { low = pos 0 +ℤ a.low; high = pos 0 +ℤ a.high }) a (omega (arith, ints)) (omega (arith, ints))

add_swapped : (a b : Span) → span_add a b ≡ span_add b a
unfolding span_add
add_swapped a b = made (a.low +ℤ b.low) (a.high +ℤ b.high) (b.low +ℤ a.low) (b.high +ℤ a.high) (omega (arith, ints)) (omega (arith, ints))

pub neg_zero : span_neg (point (pos 0)) ≡ point (pos 0)
unfolding span_neg
neg_zero = refl

neg_add : (a b : Span) → span_add (span_neg a) (span_neg b) ≡ span_neg (span_add a b)
unfolding span_add span_neg
neg_add a b = made (neg_ℤ a.high +ℤ neg_ℤ b.high) (neg_ℤ a.low +ℤ neg_ℤ b.low) (neg_ℤ (a.high +ℤ b.high)) (neg_ℤ (a.low +ℤ b.low)) (omega (arith, ints)) (omega (arith, ints))

add_four : (a b c d : Span) → span_add (span_add a b) (span_add c d) ≡ span_add (span_add a c) (span_add b d)
unfolding span_add
add_four a b c d =
    made (a.low +ℤ b.low +ℤ (c.low +ℤ d.low)) (a.high +ℤ b.high +ℤ (c.high +ℤ d.high)) (a.low +ℤ c.low +ℤ (b.low +ℤ d.low)) (a.high +ℤ c.high +ℤ (b.high +ℤ d.high)) (omega (arith, ints)) (omega (arith, ints))

list_ordered : (xs : List ℤ) → (hull_of xs).low ≤ℤ (hull_of xs).high
unfolding hull_of
list_ordered [] = omega (arith, ints)
list_ordered (v ∷ xs) = greatest_is v xs (least_of v xs) (least_member v xs)

hull_ordered : (F : Family) (x : ℕ) → (hull F x).low ≤ℤ (hull F x).high
unfolding hull
hull_ordered F x = list_ordered (set_of F x)

-- ---- sums with few variables

pub weighted_zero : (F : Family) (c : ℕ → ℤ) (n : ℕ) → ((x : ℕ) → c x ≡ pos 0) → weighted F c n ≡ point (pos 0)
weighted_zero F c zero h = refl
weighted_zero F c (suc n) h = rw (weighted_zero F c n h, h n, scale_zero (hull F n)) (zero_add (point (pos 0)))

same_weighted : (F : Family) (c d : ℕ → ℤ) (n : ℕ) → ((x : ℕ) → c x ≡ d x) → weighted F c n ≡ weighted F d n
same_weighted F c d zero h = refl
same_weighted F c d (suc n) h = rw (same_weighted F c d n h, h n) refl

before_single : (F : Family) (s n : ℕ) → n ≤ s → weighted F (single s) n ≡ point (pos 0)
before_single F s zero h = refl
before_single F s (suc n) h = elim (one_of n s) [
  | inl t ↦ absurd (omega (arith, h, t.1))
  | inr t ↦ rw (t.0, before_single F s n (omega (arith, h)), scale_zero (hull F n)) (zero_add (point (pos 0)))
]

single_weighted : (F : Family) (s n : ℕ) → s < n → weighted F (single s) n ≡ hull F s
single_weighted F s zero h = absurd (omega (arith, h))
single_weighted F s (suc n) h = elim (one_of n s) [
  | inl t ↦ rw (t.0, before_single F s n (omega (arith, t.1)), scale_one (hull F n) (hull_ordered F n)) (zero_add (hull F n) ∙ ap (hull F) t.1)
  | inr t ↦ rw (t.0, single_weighted F s n (differs h t.1), scale_zero (hull F n)) (add_zero (hull F s))
]
  where
    differs : s < suc n → n ≢ s → s < n
    differs h d = grind arith

abbrev pair : ℕ → ℕ → ℕ → ℤ
pair s d x = pos 0 +ℤ neg_ℤ (single s x +ℤ (single d x +ℤ pos 0))

scale_pair : (b e : Bool) (a : Span) → a.low ≤ℤ a.high
    → span_scale (pos 0 +ℤ neg_ℤ (cond b (pos 1) (pos 0) +ℤ (cond e (pos 1) (pos 0) +ℤ pos 0))) a ≡ span_add (span_neg (span_scale (cond b (pos 1) (pos 0)) a)) (span_neg (span_scale (cond e (pos 1) (pos 0)) a))
scale_pair true true a o = scale_twice a o ∙ rw (scale_one a o) refl
scale_pair true false a o = scale_minus a o ∙ rw (scale_one a o, scale_zero a, neg_zero) (sym (add_zero (span_neg a)))
scale_pair false true a o = scale_minus a o ∙ rw (scale_one a o, scale_zero a, neg_zero) (sym (zero_add (span_neg a)))
scale_pair false false a o = scale_zero a ∙ rw (scale_zero a, neg_zero) (sym (zero_add (point (pos 0))))

pair_weighted : (F : Family) (s d n : ℕ) → weighted F (pair s d) n ≡ span_add (span_neg (weighted F (single s) n)) (span_neg (weighted F (single d) n))
pair_weighted F s d zero = sym (ap (λ z. span_add z z) neg_zero ∙ zero_add (point (pos 0)))
pair_weighted F s d (suc n) =
    let a = span_neg (weighted F (single s) n) in
    let b = span_neg (weighted F (single d) n) in
    let c = span_neg (span_scale (single s n) (hull F n)) in
    let e = span_neg (span_scale (single d n) (hull F n)) in
    rw (pair_weighted F s d n, scale_pair (nat_eq n s) (nat_eq n d) (hull F n) (hull_ordered F n))
    (add_four a b c e ∙ ap (λ z. span_add z (span_add b e)) (neg_add (weighted F (single s) n) (span_scale (single s n) (hull F n)))
    ∙ ap (span_add (span_neg (span_add (weighted F (single s) n) (span_scale (single s n) (hull F n))))) (neg_add (weighted F (single d) n) (span_scale (single d n) (hull F n))))

less_zero : (k : ℤ) → k +ℤ neg_ℤ (pos 0) ≡ k
less_zero k = omega (arith, ints)

-- ---- an activity has started, and has not ended

pub started_is : (F : Family) (s : ℕ) (t : ℤ) (h n d v : Span) → s < length F → h ≡ hull F s → n ≡ span_neg (point t) → d ≡ span_add h n → v ≡ verdict (int_le d.high (pos 0)) (int_lt (pos 0) d.low)
    → Some v ≡ fact_range F (Fact.cmp at_most (Term.var s) (Term.const t))
unfolding compare with_variables
started_is F s t h n d v b i j k l =
    let c : ℕ → ℤ = λ x. single s x +ℤ neg_ℤ (pos 0) in
    let w : weighted F c (length F) ≡ hull F s = same_weighted F c (single s) (length F) (λ x. less_zero (single s x)) ∙ single_weighted F s (length F) b in
    let e : d ≡ span_add (span_add (point (pos 0)) (span_neg (point t))) (weighted F c (length F)) =
    k ∙ ap (λ z. span_add z n) i ∙ ap (span_add (hull F s)) j ∙ add_swapped (hull F s) (span_neg (point t)) ∙ ap (λ z. span_add z (hull F s)) (sym (zero_add (span_neg (point t))))
    ∙ ap (span_add (span_add (point (pos 0)) (span_neg (point t)))) (sym w) in
    ap Some (l ∙ ap (λ z. verdict (int_le z.high (pos 0)) (int_lt (pos 0) z.low)) e)

pub not_ended_is : (F : Family) (s d : ℕ) (t : ℤ) (a b e n p w v : Span) → s < length F → d < length F → a ≡ hull F s → b ≡ hull F d → e ≡ span_add a b → n ≡ span_neg e → p ≡ point t → w ≡ span_add p n
    → v ≡ verdict (int_lt w.high (pos 0)) (int_le (pos 0) w.low) → Some v ≡ fact_range F (Fact.cmp below (Term.const t) (plus (Term.var s) (Term.var d)))
unfolding compare with_variables
not_ended_is F s d t a b e n p w v g h i j k l m o q =
    let nothing : span_neg (span_add (point (pos 0)) (span_add (point (pos 0)) (point (pos 0)))) ≡ point (pos 0) = rw (zero_add (point (pos 0)), zero_add (point (pos 0))) neg_zero in
    let u : weighted F (pair s d) (length F) ≡ span_neg (span_add (hull F s) (hull F d)) = pair_weighted F s d (length F) ∙ rw (single_weighted F s (length F) g, single_weighted F d (length F) h) (neg_add (hull F s) (hull F d)) in
    let x : w ≡ span_add (point t) (span_neg (span_add (hull F s) (hull F d))) =
    o ∙ ap (λ z. span_add z n) m ∙ ap (span_add (point t)) (l ∙ ap span_neg (k ∙ ap (λ z. span_add z b) i ∙ ap (span_add (hull F s)) j)) in
    let y : w ≡ span_add (span_add (point t) (span_neg (span_add (point (pos 0)) (span_add (point (pos 0)) (point (pos 0)))))) (weighted F (pair s d) (length F)) =
    x ∙ ap (λ z. span_add z (span_neg (span_add (hull F s) (hull F d)))) (sym (add_zero (point t))) ∙ ap (λ z. span_add (span_add (point t) z) (span_neg (span_add (hull F s) (hull F d)))) (sym nothing)
    ∙ ap (span_add (span_add (point t) (span_neg (span_add (point (pos 0)) (span_add (point (pos 0)) (point (pos 0))))))) (sym u) in
    ap Some (q ∙ ap (λ z. verdict (int_lt z.high (pos 0)) (int_le (pos 0) z.low)) y)

pub start_there : (core : Core) (F : Family) (s : ℕ) (t : ℤ) → Below F (declared core) → IsSoundFact core.sets (Fact.cmp at_most (Term.var s) (Term.const t)) → s < length F
start_there core F s t b h = is_inside core F s b h.1.1

pub ends_there : (core : Core) (F : Family) (s d : ℕ) (t : ℤ) → Below F (declared core) → IsSoundFact core.sets (Fact.cmp below (Term.const t) (plus (Term.var s) (Term.var d))) → (s < length F) × (d < length F)
ends_there core F s d t b h = (is_inside core F s b h.2.1.0.1, is_inside core F d b h.2.1.1.0.1)

-- how large a hull and a negated number are
hull_fits : (core : Core) (F : Family) (x : ℕ) (h : Span) → Below F (declared core) → h ≡ hull F x → magnitude h ≤ var_magnitude core.sets x
hull_fits core F x h b e = subst (λ z. magnitude z ≤ var_magnitude core.sets x) (sym e) (hulls_small core F b x)

number_fits : (t : ℤ) (p : Span) → p ≡ point t → magnitude p ≤ unsigned_abs t
number_fits t p e = subst (λ z. magnitude z ≤ unsigned_abs t) (sym e) (omega arith)

neg_fits : (a n : Span) (m : ℕ) → n ≡ span_neg a → magnitude a ≤ m → magnitude n ≤ m
neg_fits a n m e h = subst (λ z. magnitude z ≤ m) (sym e) (omega (arith, neg_bound a, h))

add_fits : (a b d : Span) (m k : ℕ) → d ≡ span_add a b → magnitude a ≤ m → magnitude b ≤ k → magnitude d ≤ m + k
add_fits a b d m k e p q = subst (λ z. magnitude z ≤ m + k) (sym e) (omega (arith, add_bound a b, p, q))

pub started_fits : (core : Core) (F : Family) (s : ℕ) (t : ℤ) (h p n : Span) → Below F (declared core) → IsSoundFact core.sets (Fact.cmp at_most (Term.var s) (Term.const t)) → h ≡ hull F s → p ≡ point t → n ≡ span_neg p
    → magnitude h + magnitude n < 170141183460469231731687303715884105728
started_fits core F s t h p n b c i j k = omega (arith, c.0, hull_fits core F s h b i, neg_fits p n (unsigned_abs t) k (number_fits t p j))

pub end_fits : (core : Core) (F : Family) (s d : ℕ) (t : ℤ) (a b : Span) → Below F (declared core) → IsSoundFact core.sets (Fact.cmp below (Term.const t) (plus (Term.var s) (Term.var d))) → a ≡ hull F s → b ≡ hull F d
    → magnitude a + magnitude b < 170141183460469231731687303715884105728
end_fits core F s d t a b w c i j = omega (arith, c.0, hull_fits core F s a w i, hull_fits core F d b w j)

pub end_neg_fits : (core : Core) (F : Family) (s d : ℕ) (t : ℤ) (a b e : Span) → Below F (declared core) → IsSoundFact core.sets (Fact.cmp below (Term.const t) (plus (Term.var s) (Term.var d))) → a ≡ hull F s → b ≡ hull F d → e ≡ span_add a b
    → magnitude e < 170141183460469231731687303715884105728
end_neg_fits core F s d t a b e w c i j k = omega (arith, c.0, add_fits a b e _ _ k (hull_fits core F s a w i) (hull_fits core F d b w j))

pub not_ended_fits : (core : Core) (F : Family) (s d : ℕ) (t : ℤ) (a b e n p : Span) → Below F (declared core) → IsSoundFact core.sets (Fact.cmp below (Term.const t) (plus (Term.var s) (Term.var d))) → a ≡ hull F s → b ≡ hull F d → e ≡ span_add a b
    → n ≡ span_neg e → p ≡ point t → magnitude p + magnitude n < 170141183460469231731687303715884105728
not_ended_fits core F s d t a b e n p w c i j k l m =
    omega (arith, c.0, number_fits t p m, neg_fits e n _ l (add_fits a b e _ _ k (hull_fits core F s a w i) (hull_fits core F d b w j)))

-- ---- demands

min_one : (a : Span) → IsTruth a → span_min a (point (pos 1)) ≡ a
unfolding span_min
min_one a t = span_ext (record { low = smaller a.low (pos 1); high = smaller a.high (pos 1) }) a (smaller_is a.low (pos 1) t.low_most) (smaller_is a.high (pos 1) t.high_most)

pub demand_is : (F : Family) (u : Use) (t : ℤ) (a b m r : Span) → Some a ≡ fact_range F (Fact.cmp at_most (Term.var u.start) (Term.const t)) → Some b ≡ fact_range F (Fact.cmp below (Term.const t) (plus (Term.var u.start) (Term.var u.duration)))
    → m ≡ span_min a b → r ≡ span_scale u.demand m → Some r ≡ rest F (demand_at t u)
demand_is F u t a b m r i j k l =
    let f = fact_range F (Fact.cmp at_most (Term.var u.start) (Term.const t)) in
    let g = fact_range F (Fact.cmp below (Term.const t) (plus (Term.var u.start) (Term.var u.duration))) in
    let truth = fact_truth F (Fact.cmp below (Term.const t) (plus (Term.var u.start) (Term.var u.duration))) b (sym j) in
    ap Some (l ∙ ap (span_scale u.demand) (k ∙ ap (span_min a) (sym (min_one b truth))))
    ∙ ap (λ o. lift1 (span_scale u.demand) (lift span_min o (lift span_min (Some b) (Some (point (pos 1)))))) i
    ∙ ap (λ o. lift1 (span_scale u.demand) (lift span_min f (lift span_min o (Some (point (pos 1)))))) j

pub demand_fits : (core : Core) (F : Family) (u : Use) (t : ℤ) (a b m : Span) → IsSoundTerm core.sets (demand_at t u) → Some a ≡ fact_range F (Fact.cmp at_most (Term.var u.start) (Term.const t))
    → Some b ≡ fact_range F (Fact.cmp below (Term.const t) (plus (Term.var u.start) (Term.var u.duration))) → m ≡ span_min a b → IsSmall (unsigned_abs u.demand * magnitude m)
demand_fits core F u t a b m s i j k =
    let p = truth_bound a (fact_truth F (Fact.cmp at_most (Term.var u.start) (Term.const t)) a (sym i)) in
    let q = truth_bound b (fact_truth F (Fact.cmp below (Term.const t) (plus (Term.var u.start) (Term.var u.duration))) b (sym j)) in
    let r : magnitude m ≤ 1 = subst (λ z. magnitude z ≤ 1) (sym k) (omega (arith, min_bound a b, p, q)) in
    omega (arith, s.0, mul-le-mul_left (unsigned_abs u.demand) r)

pub demand_sound : (sets : List (ℤ × ℤ)) (t : ℤ) (uses : List Use) (k : ℕ) (d : Use) → k < length uses → AreSoundTerms sets (terms_of (map (demand_at t) uses)) → IsSoundTerm sets (demand_at t (get_or uses k d))
demand_sound sets t [] k d h s = absurd (omega (arith, h))
demand_sound sets t (u ∷ uses) zero d h s = s.0
demand_sound sets t (u ∷ uses) (suc k) d h s = demand_sound sets t uses k d (omega (arith, h)) s.1

pub total_fits : (core : Core) (F : Family) (t : ℤ) (uses : List Use) (L : ℕ) (d : Use) (r total : Span) → Below F (declared core) → 0 < L → L ≤ length uses → IsSmall (sum_magnitude core.sets (terms_of (map (demand_at t) uses)))
    → Some r ≡ rest F (demand_at t (get_or uses (L - 1) d)) → Some total ≡ rest F (Term.sum (terms_of (map (demand_at t) (drop L uses)))) → magnitude r + magnitude total < 170141183460469231731687303715884105728
total_fits core F t uses L d r total w p h s i j =
    let e = any_default uses (L - 1) d (get_or uses (L - 1) d) (omega (arith, p, h)) in
    omega (
      arith,
      sum_loop core.sets (demand_at t) uses L (get_or uses (L - 1) d) p h e s,
      rest_small core F (demand_at t (get_or uses (L - 1) d)) (Some r) r w i refl,
      rest_small core F (Term.sum (terms_of (map (demand_at t) (drop L uses)))) (Some total) total w j refl,
    )

pub total_more : (F : Family) (t : ℤ) (uses : List Use) (L : ℕ) (d : Use) (r total next : Span) → 0 < L → L ≤ length uses → Some r ≡ rest F (demand_at t (get_or uses (L - 1) d))
    → Some total ≡ rest F (Term.sum (terms_of (map (demand_at t) (drop L uses)))) → next ≡ span_add r total → Some next ≡ rest F (Term.sum (terms_of (map (demand_at t) (drop (L - 1) uses))))
total_more F t uses L d r total next p h i j k =
    let e = any_default uses (L - 1) d (get_or uses (L - 1) d) (omega (arith, p, h)) in
    ap Some k ∙ ap (λ o. lift span_add o (Some total)) i ∙ ap (lift span_add (rest F (demand_at t (get_or uses (L - 1) d)))) j
    ∙ ap (λ us. rest F (Term.sum (terms_of (map (demand_at t) us)))) (sym (part_before uses L (get_or uses (L - 1) d) p h e))

-- ---- a capacity

times_zero : (k : ℤ) → k *ℤ pos 0 ≡ pos 0
times_zero (pos n) = omega (arith, ints)
times_zero (negsuc n) = omega (arith, ints)

no_coefs : (t : ℤ) (uses : List Use) (x : ℕ) → coefs (terms_of (map (demand_at t) uses)) x ≡ pos 0
no_coefs t [] x = refl
no_coefs t (u ∷ uses) x = omega (arith, ints, times_zero u.demand, no_coefs t uses x)

pub capacity_is : (F : Family) (r : Resource) (t : ℤ) (total p n d v : Span) → Some total ≡ rest F (Term.sum (terms_of (map (demand_at t) r.uses))) → p ≡ point r.capacity → n ≡ span_neg p → d ≡ span_add total n
    → v ≡ verdict (int_le d.high (pos 0)) (int_lt (pos 0) d.low) → Some v ≡ fact_range F (capacity_at (Some r) t)
unfolding compare with_variables
capacity_is F r t total p n d v i j k l m =
    let ts = terms_of (map (demand_at t) r.uses) in
    let c : ℕ → ℤ = λ x. coefs ts x +ℤ neg_ℤ (pos 0) in
    let w : weighted F c (length F) ≡ point (pos 0) = weighted_zero F c (length F) (λ x. less_zero (coefs ts x) ∙ no_coefs t r.uses x) in
    let e : d ≡ span_add (span_add total (span_neg (point r.capacity))) (weighted F c (length F)) =
    l ∙ ap (span_add total) (k ∙ ap span_neg j) ∙ sym (add_zero (span_add total (span_neg (point r.capacity)))) ∙ ap (span_add (span_add total (span_neg (point r.capacity)))) (sym w) in
    ap Some (m ∙ ap (λ z. verdict (int_le z.high (pos 0)) (int_lt (pos 0) z.low)) e)
    ∙ ap (λ o. lift1 (compare at_most F c (length F) (all_pure ts && true)) (lift span_add o (Some (span_neg (point r.capacity))))) i

pub capacity_fits : (core : Core) (F : Family) (r : Resource) (t : ℤ) (total p n : Span) → Below F (declared core) → IsSoundFact core.sets (capacity_at (Some r) t) → Some total ≡ rest F (Term.sum (terms_of (map (demand_at t) r.uses)))
    → p ≡ point r.capacity → n ≡ span_neg p → magnitude total + magnitude n < 170141183460469231731687303715884105728
capacity_fits core F r t total p n w s i j k =
    omega (arith, s.0, rest_small core F (Term.sum (terms_of (map (demand_at t) r.uses))) (Some total) total w i refl, neg_fits p n (unsigned_abs r.capacity) k (number_fits r.capacity p j))

-- ---- numbers as the code makes intervals of them

pub point_is : (t : ℤ) (p : Span) → FitsSigned w64 t → p ≡ point (to_z w128 (of_z w128 (to_z w64 (of_z w64 t)))) → p ≡ point t
point_is t p f e = e ∙ ap point (omega (arith, ints, to_z-of_z w64 t f))

pub max_zero : (a : Span) → IsTruth a → span_max a (point (pos 0)) ≡ a
unfolding span_max
max_zero a t = span_ext (record { low = larger a.low (pos 0); high = larger a.high (pos 0) }) a (larger_back a.low (pos 0) t.low_least) (larger_back a.high (pos 0) t.high_least)
