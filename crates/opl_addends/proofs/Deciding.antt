-- The sum of the ranges of its addends decides a comparison.
use Rattle.std.proofs.Common.{◌≡◌, ◌∙◌, ◌⊎◌, ℕ, zero, suc, Bool, true, false, cond, not, ◌&&◌, refl, List, [], ◌∷◌, ◌++◌, map, length, ℤ, pos, ◌+ℤ◌, ◌*ℤ◌, neg_ℤ, ◌≤ℤ◌, inl, inr, ap, sym, subst, arith}
use Rattle.std.specs.Prelude.{Option, Some, None, int_le, int_lt}
use Rattle.std.specs.Ordering.{int_eq}
use Rattle.std.proofs.lemmas.Int.{ints}
use Rattle.std.proofs.lemmas.Bool.Decides.{Decides-int_eq}
use Rattle.std.proofs.Math.Path.{fun_ext}
use Rattle.opl_domain.specs.Span.{Span, IsInside, smaller, larger, point, is_point}
use Rattle.opl_domain.specs.Arithmetic.{span_add, span_neg, is_nonzero}
use Rattle.opl_domain.specs.Family.{Family, hull, Full}
use Rattle.opl_domain.proofs.Numbers.{smaller_tells, larger_tells}
use Rattle.opl_expr.specs.declared.forms.Op.TheVariants.{Eq, Ne, Lt, Le, Gt, Ge}
use Rattle.opl_expr.specs.Forms.{Relation, Term, Terms, Fact}
use Rattle.opl_expr.specs.Forms.Relation.{equal, at_most, below}
use Rattle.opl_expr.specs.Options.{lift, lift1, lift_all}
use Rattle.opl_expr.specs.Range.{flip, is_possible, span_scale, Linear, weighted, with_variables, misses_zero, never_zero, compare, coef, coefs, pure, rest, linears, range, fact_range, is_refuted}
use Rattle.opl_expr.proofs.Inside.{of_inside}
use Rattle.opl_expr.proofs.Narrower.{monotony}
use Rattle.opl_trace.proofs.Families.{below_self}
use Rattle.opl_linear.proofs.Normal.{never_refuted, sure_refuted}
use Rattle.opl_addends.specs.declared.sum.Demand.{Demand}
use Rattle.opl_addends.specs.declared.sum.Demand.TheVariants as demand
use Rattle.opl_addends.specs.Addends.{addends, all_addends, addends_between, signed, signed_span, addend_range, total, one_if, with_factor, AreApart}
use Rattle.opl_addends.specs.Demands.{is_refuted_if, is_sum_refuted}
use Rattle.opl_addends.specs.Laws.{AddendsDecide}
use Rattle.opl_addends.proofs.Intervals.{same_span, add_turned, add_again, signed_sum, lift_again, lift_nothing, lift_nothing_behind, lift_signed, lift_neg, append_again, append_nothing, add_nothing, add_nothing_behind, signed_nothing}

-- ---- sums of variables with their factors

times_nothing : (k v : ℤ) → k ≡ pos 0 → k *ℤ v ≡ pos 0
times_nothing k v h = grind (arith, ints)

scale_nothing : (k : ℤ) (a : Span) → k ≡ pos 0 → span_scale k a ≡ point (pos 0)
unfolding span_scale smaller larger
scale_nothing k a h = rw (times_nothing k a.low h, times_nothing k a.high h) refl

weighted_nothing : (F : Family) (c : ℕ → ℤ) (n : ℕ) → ((x : ℕ) → c x ≡ pos 0) → weighted F c n ≡ point (pos 0)
weighted_nothing F c zero h = refl
weighted_nothing F c (suc n) h = ap (λ w. span_add w (span_scale (c n) (hull F n))) (weighted_nothing F c n h) ∙ add_nothing (span_scale (c n) (hull F n)) ∙ scale_nothing (c n) (hull F n) (h n)

-- one of two factors of each variable is 0
OneIsNothing : (ℕ → ℤ) → (ℕ → ℤ) → Type 0
OneIsNothing c d = (x : ℕ) → (c x ≡ pos 0) ⊎ (d x ≡ pos 0)

scale_sum : (k l : ℤ) (a : Span) → (k ≡ pos 0) ⊎ (l ≡ pos 0) → span_scale (k +ℤ l) a ≡ span_add (span_scale k a) (span_scale l a)
scale_sum k l a h = elim h [
  | inl e ↦ let s : k +ℤ l ≡ l = omega (arith, ints, e) in ap (λ z. span_scale z a) s ∙ sym (ap (λ z. span_add z (span_scale l a)) (scale_nothing k a e) ∙ add_nothing (span_scale l a))
  | inr e ↦ let s : k +ℤ l ≡ k = omega (arith, ints, e) in ap (λ z. span_scale z a) s ∙ sym (ap (λ z. span_add (span_scale k a) z) (scale_nothing l a e) ∙ add_nothing_behind (span_scale k a))
]

four : (a b c d : Span) → span_add (span_add a b) (span_add c d) ≡ span_add (span_add a c) (span_add b d)
four a b c d =
    add_again a b (span_add c d) ∙ ap (span_add a) (sym (add_again b c d) ∙ ap (λ z. span_add z d) (add_turned b c) ∙ add_again c b d) ∙ sym (add_again a c (span_add b d))

weighted_sum : (F : Family) (c d : ℕ → ℤ) (n : ℕ) → OneIsNothing c d → weighted F (λ x. c x +ℤ d x) n ≡ span_add (weighted F c n) (weighted F d n)
unfolding OneIsNothing
weighted_sum F c d zero h = sym (add_nothing (point (pos 0)))
weighted_sum F c d (suc n) h =
    ap (λ w. span_add w (span_scale (c n +ℤ d n) (hull F n))) (weighted_sum F c d n h)
    ∙ ap (span_add (span_add (weighted F c n) (weighted F d n))) (scale_sum (c n) (d n) (hull F n) (h n))
    ∙ four (weighted F c n) (weighted F d n) (span_scale (c n) (hull F n)) (span_scale (d n) (hull F n))

neg_product : (k v : ℤ) → neg_ℤ k *ℤ v ≡ neg_ℤ (k *ℤ v)
neg_product k v = grind (arith, ints)

smaller_neg : (x y : ℤ) → smaller (neg_ℤ x) (neg_ℤ y) ≡ neg_ℤ (larger x y)
smaller_neg x y = elim (smaller_tells (neg_ℤ x) (neg_ℤ y)) [
  | inl p ↦ elim (larger_tells x y) [ inl q ↦ omega (arith, ints, p.0, p.1, q.0, q.1) | inr q ↦ omega (arith, ints, p.0, p.1, q.0, q.1) ]
  | inr p ↦ elim (larger_tells x y) [ inl q ↦ omega (arith, ints, p.0, p.1, q.0, q.1) | inr q ↦ omega (arith, ints, p.0, p.1, q.0, q.1) ]
]

larger_neg : (x y : ℤ) → larger (neg_ℤ x) (neg_ℤ y) ≡ neg_ℤ (smaller x y)
larger_neg x y = elim (larger_tells (neg_ℤ x) (neg_ℤ y)) [
  | inl p ↦ elim (smaller_tells x y) [ inl q ↦ omega (arith, ints, p.0, p.1, q.0, q.1) | inr q ↦ omega (arith, ints, p.0, p.1, q.0, q.1) ]
  | inr p ↦ elim (smaller_tells x y) [ inl q ↦ omega (arith, ints, p.0, p.1, q.0, q.1) | inr q ↦ omega (arith, ints, p.0, p.1, q.0, q.1) ]
]

scale_neg : (k : ℤ) (a : Span) → span_scale (neg_ℤ k) a ≡ span_neg (span_scale k a)
unfolding span_scale span_neg
scale_neg k a = rw (neg_product k a.low, neg_product k a.high) (same_span
    (record { low = smaller (neg_ℤ (k *ℤ a.low)) (neg_ℤ (k *ℤ a.high)); high = larger (neg_ℤ (k *ℤ a.low)) (neg_ℤ (k *ℤ a.high)) })
    (record { low = neg_ℤ (larger (k *ℤ a.low) (k *ℤ a.high)); high = neg_ℤ (smaller (k *ℤ a.low) (k *ℤ a.high)) })
    (smaller_neg (k *ℤ a.low) (k *ℤ a.high)) (larger_neg (k *ℤ a.low) (k *ℤ a.high)))

scale_signed : (o : Bool) (k : ℤ) (a : Span) → span_scale (signed o k) a ≡ signed_span o (span_scale k a)
scale_signed false k a = refl
scale_signed true k a = scale_neg k a

weighted_signed : (F : Family) (o : Bool) (c : ℕ → ℤ) (n : ℕ) → weighted F (λ x. signed o (c x)) n ≡ signed_span o (weighted F c n)
weighted_signed F o c zero = sym (signed_nothing o)
weighted_signed F o c (suc n) =
    ap (λ w. span_add w (span_scale (signed o (c n)) (hull F n))) (weighted_signed F o c n)
    ∙ ap (span_add (signed_span o (weighted F c n))) (scale_signed o (c n) (hull F n))
    ∙ sym (signed_sum o (weighted F c n) (span_scale (c n) (hull F n)))

-- ---- the factors of all addends, and the sum of what they have beside

abbrev pub factors : List (Bool × Term) → ℕ → ℤ
factors [] x = pos 0
factors (a ∷ ss) x = signed a.0 (coef a.1 x) +ℤ factors ss x

abbrev pub rests : Family → List (Bool × Term) → Option Span
rests F [] = Some (point (pos 0))
rests F (a ∷ ss) = lift span_add (lift1 (signed_span a.0) (rest F a.1)) (rests F ss)

signed_zero : (o : Bool) (k : ℤ) → k ≡ pos 0 → signed o k ≡ pos 0
signed_zero false k h = h
signed_zero true k h = ap neg_ℤ h

nothing_is : (k : ℤ) → one_if (is_nonzero k) ≡ 0 → k ≡ pos 0
nothing_is k h = elim (int_eq k (pos 0)) as (λ b. int_eq k (pos 0) ≡ b → one_if (cond b false true) ≡ 0 → k ≡ pos 0) [
  | true ↦ λ e g. (Decides-int_eq k (pos 0)).0 e
  | false ↦ λ e g. absurd (omega (arith, g))
] refl h

free_factors : (x : ℕ) (ss : List (Bool × Term)) → with_factor x ss ≡ 0 → factors ss x ≡ pos 0
free_factors x [] h = refl
free_factors x (a ∷ ss) h =
    let p : one_if (is_nonzero (coef a.1 x)) ≡ 0 = omega (arith, h) in
    let q : with_factor x ss ≡ 0 = omega (arith, h) in
    ap (λ k. k +ℤ factors ss x) (signed_zero a.0 (coef a.1 x) (nothing_is (coef a.1 x) p)) ∙ ap (λ k. pos 0 +ℤ k) (free_factors x ss q)

apart_factors : (a : Bool × Term) (ss : List (Bool × Term)) → AreApart (a ∷ ss) → OneIsNothing (λ x. signed a.0 (coef a.1 x)) (factors ss)
unfolding OneIsNothing
apart_factors a ss h x = elim (is_nonzero (coef a.1 x)) as (λ b. is_nonzero (coef a.1 x) ≡ b → (signed a.0 (coef a.1 x) ≡ pos 0) ⊎ (factors ss x ≡ pos 0)) [
  | true ↦ λ e. let q : with_factor x ss ≡ 0 = omega (arith, h x, ap one_if e) in inr (free_factors x ss q)
  | false ↦ λ e. inl (signed_zero a.0 (coef a.1 x) (nothing_is (coef a.1 x) (ap one_if e)))
] refl

apart_behind : (a : Bool × Term) (ss : List (Bool × Term)) → AreApart (a ∷ ss) → AreApart ss
apart_behind a ss h x = omega (arith, h x)

-- the range of one addend and of others
range_sum : (F : Family) (o : Bool) (c d : ℕ → ℤ) (n : ℕ) (r s : Option Span) → OneIsNothing (λ x. signed o (c x)) d →
    lift span_add (lift1 (signed_span o) (lift1 (with_variables F c n) r)) (lift1 (with_variables F d n) s) ≡ lift1 (with_variables F (λ x. signed o (c x) +ℤ d x) n) (lift span_add (lift1 (signed_span o) r) s)
unfolding with_variables
range_sum F o c d n None s h = refl
range_sum F o c d n (Some r) None h = refl
range_sum F o c d n (Some r) (Some s) h = ap Some (
    ap (λ z. span_add z (span_add s (weighted F d n))) (signed_sum o r (weighted F c n))
    ∙ four (signed_span o r) (signed_span o (weighted F c n)) s (weighted F d n)
    ∙ ap (span_add (span_add (signed_span o r) s)) (ap (λ z. span_add z (weighted F d n)) (sym (weighted_signed F o c n)) ∙ sym (weighted_sum F (λ x. signed o (c x)) d n h)))

total_is : (F : Family) (ss : List (Bool × Term)) → AreApart ss → total F ss ≡ lift1 (with_variables F (factors ss) (length F)) (rests F ss)
unfolding with_variables
total_is F [] h = ap Some (sym (ap (span_add (point (pos 0))) (weighted_nothing F (factors []) (length F) (λ x. refl)) ∙ add_nothing (point (pos 0))))
total_is F (a ∷ ss) h =
    ap (lift span_add (addend_range F a)) (total_is F ss (apart_behind a ss h))
    ∙ range_sum F a.0 (coef a.1) (factors ss) (length F) (rest F a.1) (rests F ss) (apart_factors a ss h)

-- ---- the addends of an expression

signed_plus : (o : Bool) (k l m : ℤ) → signed o (k +ℤ l) +ℤ m ≡ signed o k +ℤ (signed o l +ℤ m)
signed_plus false k l m = omega (arith, ints)
signed_plus true k l m = omega (arith, ints)

signed_turned : (o : Bool) (k : ℤ) → signed (not o) k ≡ signed o (neg_ℤ k)
signed_turned false k = refl
signed_turned true k = omega (arith, ints)

module _ (x : ℕ) where
  mutual
    factors_are : (o : Bool) (t : Term) (ss : List (Bool × Term)) → factors (addends o t ++ ss) x ≡ signed o (coef t x) +ℤ factors ss x
    factors_are o (Term.const k) ss = refl
    factors_are o (Term.var y) ss = refl
    factors_are o (Term.sum ts) ss = all_factors_are o ts ss
    factors_are o (Term.neg t) ss = factors_are (not o) t ss ∙ ap (λ k. k +ℤ factors ss x) (signed_turned o (coef t x))
    factors_are o (Term.scale k t) ss = refl
    factors_are o (Term.mul s t) ss = refl
    factors_are o (Term.div s t) ss = refl
    factors_are o (Term.rem s t) ss = refl
    factors_are o (Term.abs t) ss = refl
    factors_are o (Term.least ts) ss = refl
    factors_are o (Term.greatest ts) ss = refl
    factors_are o (Term.at table ts) ss = refl
    factors_are o (Term.truth c) ss = refl
    factors_are o (Term.asked ask y) ss = refl

    all_factors_are : (o : Bool) (ts : Terms) (ss : List (Bool × Term)) → factors (all_addends o ts ++ ss) x ≡ signed o (coefs ts x) +ℤ factors ss x
    all_factors_are o Terms.no_terms ss = sym (ap (λ k. k +ℤ factors ss x) (signed_zero o (pos 0) refl) ∙ omega (arith, ints))
    all_factors_are o (Terms.more_terms t ts) ss =
        ap (λ (bs : List (Bool × Term)). factors bs x) (append_again (addends o t) (all_addends o ts) ss)
        ∙ factors_are o t (all_addends o ts ++ ss)
        ∙ ap (λ k. signed o (coef t x) +ℤ k) (all_factors_are o ts ss)
        ∙ sym (signed_plus o (coef t x) (coefs ts x) (factors ss x))

module _ (F : Family) where
  abbrev all_rests : Terms → Option Span
  all_rests ts = lift_all span_add (point (pos 0)) (map (λ (e : Linear). e.rest) (linears F ts))

  mutual
    rests_are : (o : Bool) (t : Term) (ss : List (Bool × Term)) → rests F (addends o t ++ ss) ≡ lift span_add (lift1 (signed_span o) (rest F t)) (rests F ss)
    rests_are o (Term.const k) ss = refl
    rests_are o (Term.var y) ss = refl
    rests_are o (Term.sum ts) ss = all_rests_are o ts ss
    rests_are o (Term.neg t) ss = rests_are (not o) t ss ∙ ap (λ r. lift span_add r (rests F ss)) (sym (lift_neg o (rest F t)))
    rests_are o (Term.scale k t) ss = refl
    rests_are o (Term.mul s t) ss = refl
    rests_are o (Term.div s t) ss = refl
    rests_are o (Term.rem s t) ss = refl
    rests_are o (Term.abs t) ss = refl
    rests_are o (Term.least ts) ss = refl
    rests_are o (Term.greatest ts) ss = refl
    rests_are o (Term.at table ts) ss = refl
    rests_are o (Term.truth c) ss = refl
    rests_are o (Term.asked ask y) ss = refl

    all_rests_are : (o : Bool) (ts : Terms) (ss : List (Bool × Term)) → rests F (all_addends o ts ++ ss) ≡ lift span_add (lift1 (signed_span o) (all_rests ts)) (rests F ss)
    all_rests_are o Terms.no_terms ss = sym (ap (λ a. lift span_add (Some a) (rests F ss)) (signed_nothing o) ∙ lift_nothing (rests F ss))
    all_rests_are o (Terms.more_terms t ts) ss =
        ap (rests F) (append_again (addends o t) (all_addends o ts) ss)
        ∙ rests_are o t (all_addends o ts ++ ss)
        ∙ ap (lift span_add (lift1 (signed_span o) (rest F t))) (all_rests_are o ts ss)
        ∙ sym (ap (λ r. lift span_add r (rests F ss)) (lift_signed o (rest F t) (all_rests ts)) ∙ lift_again (lift1 (signed_span o) (rest F t)) (lift1 (signed_span o) (all_rests ts)) (rests F ss))

-- ---- two sides

abbrev difference : Term → Term → ℕ → ℤ
difference a b x = coef a x +ℤ neg_ℤ (coef b x)

abbrev difference_rest : Family → Term → Term → Option Span
difference_rest F a b = lift span_add (rest F a) (lift1 span_neg (rest F b))

factors_between : (a b : Term) → factors (addends_between a b) ≡ difference a b
factors_between a b = fun_ext (λ x.
    factors_are x false a (addends true b)
    ∙ ap (λ k. coef a x +ℤ k) (ap (λ (bs : List (Bool × Term)). factors bs x) (sym (append_nothing (addends true b))) ∙ factors_are x true b [] ∙ plus_nothing (neg_ℤ (coef b x))))
  where
    plus_nothing : (k : ℤ) → k +ℤ pos 0 ≡ k
    plus_nothing k = omega (arith, ints)

same_lift : (r : Option Span) → lift1 (signed_span false) r ≡ r
same_lift None = refl
same_lift (Some a) = refl

neg_lift : (r : Option Span) → lift1 (signed_span true) r ≡ lift1 span_neg r
neg_lift None = refl
neg_lift (Some a) = refl

rests_between : (F : Family) (a b : Term) → rests F (addends_between a b) ≡ difference_rest F a b
rests_between F a b =
    rests_are F false a (addends true b)
    ∙ ap (λ r. lift span_add r (rests F (addends true b))) (same_lift (rest F a))
    ∙ ap (lift span_add (rest F a)) (ap (rests F) (sym (append_nothing (addends true b))) ∙ rests_are F true b [] ∙ lift_nothing_behind (lift1 (signed_span true) (rest F b)) ∙ neg_lift (rest F b))

pub total_between : (F : Family) (a b : Term) → AreApart (addends_between a b) → total F (addends_between a b) ≡ lift1 (with_variables F (difference a b) (length F)) (difference_rest F a b)
total_between F a b h =
    total_is F (addends_between a b) h
    ∙ ap (λ c. lift1 (with_variables F c (length F)) (rests F (addends_between a b))) (factors_between a b)
    ∙ ap (lift1 (with_variables F (difference a b) (length F))) (rests_between F a b)

-- ---- the ends of sums are ordered

range_ordered : (F : Family) (t : Term) (r : Span) → Full F → range F t ≡ Some r → r.low ≤ℤ r.high
range_ordered F t r f e =
    let i = monotony.terms t F F f (below_self F) in
    let j : IsInside (Some r) (Some r) = subst (λ o. IsInside o o) e i in
    (of_inside r r j).low.most

signed_ordered : (o : Bool) (a : Span) → a.low ≤ℤ a.high → (signed_span o a).low ≤ℤ (signed_span o a).high
unfolding span_neg
signed_ordered false a h = h
signed_ordered true a h = omega (arith, ints, h)

add_ordered : (a b : Span) → a.low ≤ℤ a.high → b.low ≤ℤ b.high → (span_add a b).low ≤ℤ (span_add a b).high
unfolding span_add
add_ordered a b h k = omega (arith, ints, h, k)

-- an interval that may be missing is ordered
Ordered : Option Span → Type 0
Ordered None = Unit {0}
Ordered (Some a) = a.low ≤ℤ a.high

ordered_range : (F : Family) (t : Term) (r : Option Span) → Full F → range F t ≡ r → Ordered r
unfolding Ordered
ordered_range F t None f e = tt
ordered_range F t (Some r) f e = range_ordered F t r f e

ordered_signed : (o : Bool) (r : Option Span) → Ordered r → Ordered (lift1 (signed_span o) r)
unfolding Ordered
ordered_signed o None h = tt
ordered_signed o (Some a) h = signed_ordered o a h

ordered_lift : (r s : Option Span) → Ordered r → Ordered s → Ordered (lift span_add r s)
unfolding Ordered
ordered_lift None s h k = tt
ordered_lift (Some a) None h k = tt
ordered_lift (Some a) (Some b) h k = add_ordered a b h k

all_ordered : (F : Family) (ss : List (Bool × Term)) → Full F → Ordered (total F ss)
unfolding Ordered
all_ordered F [] f = omega (arith, ints)
all_ordered F (a ∷ ss) f = ordered_lift (addend_range F a) (total F ss) (ordered_signed a.0 (range F a.1) (ordered_range F a.1 (range F a.1) f refl)) (all_ordered F ss f)

pub total_ordered : (F : Family) (ss : List (Bool × Term)) (r : Span) → Full F → total F ss ≡ Some r → r.low ≤ℤ r.high
unfolding Ordered
total_ordered F ss r f e = subst Ordered e (all_ordered F ss f)

-- ---- which families refute a comparison

apart_at_most : (l h : ℤ) → l ≤ℤ h → int_le h (pos 0) ≡ true → int_lt (pos 0) l ≡ false
apart_at_most l h o e = grind (arith, ints)

apart_below : (l h : ℤ) → l ≤ℤ h → int_lt h (pos 0) ≡ true → int_le (pos 0) l ≡ false
apart_below l h o e = grind (arith, ints)

apart_equal : (d : Span) → is_point (pos 0) d ≡ true → misses_zero d ≡ false
apart_equal d e = grind (arith, ints, Decides-int_eq)

-- the test of a demand on an interval that may be missing, as the range of a comparison is read
abbrev refuted : Option Span → Bool
refuted r = cond (is_possible r) false true

module _ (F : Family) (c : ℕ → ℤ) (n : ℕ) where
  at_most_is : (r : Option Span) → Ordered (lift1 (with_variables F c n) r) → refuted (lift1 (compare at_most F c n false) r) ≡ is_refuted_if demand.AtMost (lift1 (with_variables F c n) r)
  unfolding compare Ordered
  at_most_is None o = refl
  at_most_is (Some r) o = let d = with_variables F c n r in never_refuted (int_le d.high (pos 0)) (int_lt (pos 0) d.low) (apart_at_most d.low d.high o)

  below_is : (r : Option Span) → Ordered (lift1 (with_variables F c n) r) → refuted (lift1 (compare below F c n false) r) ≡ is_refuted_if demand.Below (lift1 (with_variables F c n) r)
  unfolding compare Ordered
  below_is None o = refl
  below_is (Some r) o = let d = with_variables F c n r in never_refuted (int_lt d.high (pos 0)) (int_le (pos 0) d.low) (apart_below d.low d.high o)

  equal_is : (r : Option Span) → refuted (lift1 (compare equal F c n false) r) ≡ is_refuted_if demand.Zero (lift1 (with_variables F c n) r)
  unfolding compare never_zero
  equal_is None = refl
  equal_is (Some r) = let d = with_variables F c n r in never_refuted (is_point (pos 0) d) (misses_zero d) (apart_equal d)

  different_is : (r : Option Span) → refuted (lift1 flip (lift1 (compare equal F c n false) r)) ≡ is_refuted_if demand.Different (lift1 (with_variables F c n) r)
  unfolding compare never_zero
  different_is None = refl
  different_is (Some r) = let d = with_variables F c n r in sure_refuted (is_point (pos 0) d) (misses_zero d) (apart_equal d)

module _ (F : Family) (f : Full F) (a b : Term) (p : (pure a && pure b) ≡ false) (h : AreApart (addends_between a b)) where
  abbrev whole : Option Span
  whole = lift1 (with_variables F (difference a b) (length F)) (difference_rest F a b)

  whole_ordered : Ordered whole
  whole_ordered = subst Ordered (total_between F a b h) (all_ordered F (addends_between a b) f)

  compared_is : (rel : Relation) → fact_range F (Fact.cmp rel a b) ≡ lift1 (compare rel F (difference a b) (length F) false) (difference_rest F a b)
  compared_is rel = ap (λ q. lift1 (compare rel F (difference a b) (length F) q) (difference_rest F a b)) p

  decided : (d : Demand) → is_refuted_if d whole ≡ is_sum_refuted d (addends_between a b) F
  decided d = ap (is_refuted_if d) (sym (total_between F a b h))

  at_most_decided : is_refuted F (Fact.cmp at_most a b) ≡ is_sum_refuted demand.AtMost (addends_between a b) F
  at_most_decided = ap refuted (compared_is at_most) ∙ at_most_is F (difference a b) (length F) (difference_rest F a b) whole_ordered ∙ decided demand.AtMost

  below_decided : is_refuted F (Fact.cmp below a b) ≡ is_sum_refuted demand.Below (addends_between a b) F
  below_decided = ap refuted (compared_is below) ∙ below_is F (difference a b) (length F) (difference_rest F a b) whole_ordered ∙ decided demand.Below

  equal_decided : is_refuted F (Fact.cmp equal a b) ≡ is_sum_refuted demand.Zero (addends_between a b) F
  equal_decided = ap refuted (compared_is equal) ∙ equal_is F (difference a b) (length F) (difference_rest F a b) ∙ decided demand.Zero

  different_decided : is_refuted F (Fact.not (Fact.cmp equal a b)) ≡ is_sum_refuted demand.Different (addends_between a b) F
  different_decided = ap (λ r. refuted (lift1 flip r)) (compared_is equal) ∙ different_is F (difference a b) (length F) (difference_rest F a b) ∙ decided demand.Different

and_turned : (a b : Bool) → (a && b) ≡ false → (b && a) ≡ false
and_turned true true h = h
and_turned true false h = refl
and_turned false true h = refl
and_turned false false h = refl

pub addends_decide : AddendsDecide
addends_decide Eq a b F f p h = equal_decided F f a b p h
addends_decide Ne a b F f p h = different_decided F f a b p h
addends_decide Lt a b F f p h = below_decided F f a b p h
addends_decide Le a b F f p h = at_most_decided F f a b p h
addends_decide Gt a b F f p h = below_decided F f b a (and_turned (pure a) (pure b) p) h
addends_decide Ge a b F f p h = at_most_decided F f b a (and_turned (pure a) (pure b) p) h
