-- When no value of the objective is better than a best value.
use Rattle.std.proofs.Common.{◌≡◌, ◌∙◌, ℕ, zero, suc, Bool, true, false, ◌&&◌, cond, refl, ℤ, pos, ◌+ℤ◌, ◌*ℤ◌, ◌≤ℤ◌, neg_ℤ, length, ap, arith, inl, inr}
use Rattle.std.specs.Prelude.{Option, Some, None, int_le, int_lt}
use Rattle.std.proofs.lemmas.Int.{ints}
use Rattle.opl_domain.specs.Span.{Span, point, smaller, larger}
use Rattle.opl_domain.specs.Arithmetic.{span_add, span_neg}
use Rattle.opl_domain.specs.Family.{Family, hull}
use Rattle.opl_domain.proofs.Numbers.{smaller_tells, larger_tells}
use Rattle.opl_expr.specs.Forms.{Term, Fact}
use Rattle.opl_expr.specs.Forms.Relation.{below}
use Rattle.opl_expr.specs.Options.{lift1, lift}
use Rattle.opl_expr.specs.Range.{verdict, is_possible, span_scale, weighted, with_variables, compare, coef, pure, rest, range, is_refuted}
use Rattle.opl_expr.proofs.Ring.{neg_times}
use Rattle.opl_trace.specs.Objective.{Objective, better_than}

-- ---- the sum of the other signs

neg_smaller : (x y : ℤ) → smaller (neg_ℤ x) (neg_ℤ y) ≡ neg_ℤ (larger x y)
neg_smaller x y = elim (smaller_tells (neg_ℤ x) (neg_ℤ y)) [
  | inl p ↦ elim (larger_tells x y) [ inl q ↦ omega (arith, ints, p.0, p.1, q.0, q.1) | inr q ↦ omega (arith, ints, p.0, p.1, q.0, q.1) ]
  | inr p ↦ elim (larger_tells x y) [ inl q ↦ omega (arith, ints, p.0, p.1, q.0, q.1) | inr q ↦ omega (arith, ints, p.0, p.1, q.0, q.1) ]
]

neg_larger : (x y : ℤ) → larger (neg_ℤ x) (neg_ℤ y) ≡ neg_ℤ (smaller x y)
neg_larger x y = elim (larger_tells (neg_ℤ x) (neg_ℤ y)) [
  | inl p ↦ elim (smaller_tells x y) [ inl q ↦ omega (arith, ints, p.0, p.1, q.0, q.1) | inr q ↦ omega (arith, ints, p.0, p.1, q.0, q.1) ]
  | inr p ↦ elim (smaller_tells x y) [ inl q ↦ omega (arith, ints, p.0, p.1, q.0, q.1) | inr q ↦ omega (arith, ints, p.0, p.1, q.0, q.1) ]
]

nothing_plus : (v : ℤ) → pos 0 +ℤ v ≡ v
nothing_plus v = omega (arith, ints)

less_nothing : (v : ℤ) → v +ℤ neg_ℤ (pos 0) ≡ v
less_nothing v = omega (arith, ints)

neg_product : (k l : ℤ) → (pos 0 +ℤ neg_ℤ k) *ℤ l ≡ neg_ℤ (k *ℤ l)
neg_product k l = ap (λ z. z *ℤ l) (nothing_plus (neg_ℤ k)) ∙ neg_times k l

neg_scale : (k : ℤ) (a : Span) → span_scale (pos 0 +ℤ neg_ℤ k) a ≡ span_neg (span_scale k a)
unfolding span_scale span_neg
neg_scale k a = rw (neg_product k a.low, neg_product k a.high, neg_smaller (k *ℤ a.low) (k *ℤ a.high), neg_larger (k *ℤ a.low) (k *ℤ a.high)) refl

made : (l h m k : ℤ) → l ≡ m → h ≡ k → ◌≡◌ {A = Span} (record { low = l; high = h }) (record { low = m; high = k })
made l h m k p q = rw (p, q) refl

neg_add : (a b : Span) → span_add (span_neg a) (span_neg b) ≡ span_neg (span_add a b)
unfolding span_add span_neg
neg_add a b = made (neg_ℤ a.high +ℤ neg_ℤ b.high) (neg_ℤ a.low +ℤ neg_ℤ b.low) (neg_ℤ (a.high +ℤ b.high)) (neg_ℤ (a.low +ℤ b.low)) (omega (arith, ints)) (omega (arith, ints))

neg_zero : point (pos 0) ≡ span_neg (point (pos 0))
unfolding span_neg
neg_zero = refl

neg_weighted : (F : Family) (c : ℕ → ℤ) (n : ℕ) → weighted F (λ x. pos 0 +ℤ neg_ℤ (c x)) n ≡ span_neg (weighted F c n)
neg_weighted F c zero = neg_zero
neg_weighted F c (suc n) =
    ap (λ s. span_add s (span_scale (pos 0 +ℤ neg_ℤ (c n)) (hull F n))) (neg_weighted F c n)
    ∙ ap (span_add (span_neg (weighted F c n))) (neg_scale (c n) (hull F n))
    ∙ neg_add (weighted F c n) (span_scale (c n) (hull F n))

same_coefficients : (c : ℕ → ℤ) → ◌≡◌ {A = ℕ → ℤ} (λ x. c x +ℤ neg_ℤ (pos 0)) c
same_coefficients c = λ i x. less_nothing (c x) i

-- ---- verdicts

refuted_by : (s v : Bool) → (v ≡ true → s ≡ false) → cond (is_possible (Some (verdict s v))) false true ≡ v
refuted_by true true h = let e = h refl in cc
refuted_by true false h = refl
refuted_by false true h = refl
refuted_by false false h = refl

at_least : (d h b : ℤ) → d ≡ b +ℤ neg_ℤ h → int_le (pos 0) d ≡ int_le h b
at_least d h b e = elim (int_le h b) as (λ c. int_le h b ≡ c → int_le (pos 0) d ≡ c) [ true ↦ λ k. grind (arith, ints) | false ↦ λ k. grind (arith, ints) ] refl

not_below : (l h : ℤ) → l ≤ℤ h → int_le (pos 0) l ≡ true → int_lt h (pos 0) ≡ false
not_below l h o k = grind (arith, ints)

-- the verdict on a difference d, which lies below zero nowhere
verdict_on : (d : Span) (h b : ℤ) → d.low ≤ℤ d.high → d.low ≡ b +ℤ neg_ℤ h → cond (is_possible (Some (verdict (int_lt d.high (pos 0)) (int_le (pos 0) d.low)))) false true ≡ int_le h b
verdict_on d h b o e = refuted_by (int_lt d.high (pos 0)) (int_le (pos 0) d.low) (not_below d.low d.high o) ∙ at_least d.low h b e

the_span : (a b : Span) → Some a ≡ Some b → a ≡ b
the_span a b e = cc

-- ---- the bound

most_at : (F : Family) (t : Term) (b : ℤ) (a : Span) (o : Option Span) (p : Bool) → lift1 (with_variables F (coef t) (length F)) o ≡ Some a → a.low ≤ℤ a.high →
    cond (is_possible (lift1 (compare below F (λ x. pos 0 +ℤ neg_ℤ (coef t x)) (length F) p) (lift span_add (Some (point b)) (lift1 span_neg o)))) false true ≡ int_le a.high b
unfolding compare with_variables span_add span_neg
most_at F t b a None p e l = cc
most_at F t b a (Some r) p e l =
    let i = the_span _ a e in
    let n = neg_weighted F (coef t) (length F) in
    let lows : r.low +ℤ (weighted F (coef t) (length F)).low ≡ a.low = ap (λ (s : Span). s.low) i in
    let highs : r.high +ℤ (weighted F (coef t) (length F)).high ≡ a.high = ap (λ (s : Span). s.high) i in
    let low : (weighted F (λ x. pos 0 +ℤ neg_ℤ (coef t x)) (length F)).low ≡ neg_ℤ ((weighted F (coef t) (length F)).high) = ap (λ (s : Span). s.low) n in
    let high : (weighted F (λ x. pos 0 +ℤ neg_ℤ (coef t x)) (length F)).high ≡ neg_ℤ ((weighted F (coef t) (length F)).low) = ap (λ (s : Span). s.high) n in
    verdict_on (with_variables F (λ x. pos 0 +ℤ neg_ℤ (coef t x)) (length F) (span_add (point b) (span_neg r))) a.high b (omega (arith, ints, l, lows, highs, low, high)) (omega (arith, ints, l, lows, highs, low, high))

least_at : (F : Family) (t : Term) (b : ℤ) (a : Span) (o : Option Span) (p : Bool) → lift1 (with_variables F (coef t) (length F)) o ≡ Some a → a.low ≤ℤ a.high →
    cond (is_possible (lift1 (compare below F (λ x. coef t x +ℤ neg_ℤ (pos 0)) (length F) p) (lift span_add o (lift1 span_neg (Some (point b)))))) false true ≡ int_le b a.low
unfolding compare with_variables span_add span_neg
least_at F t b a None p e l = cc
least_at F t b a (Some r) p e l =
    let i = the_span _ a e in
    let n = ap (λ c. weighted F c (length F)) (same_coefficients (coef t)) in
    let lows : r.low +ℤ (weighted F (coef t) (length F)).low ≡ a.low = ap (λ (s : Span). s.low) i in
    let highs : r.high +ℤ (weighted F (coef t) (length F)).high ≡ a.high = ap (λ (s : Span). s.high) i in
    let low : (weighted F (λ x. coef t x +ℤ neg_ℤ (pos 0)) (length F)).low ≡ (weighted F (coef t) (length F)).low = ap (λ (s : Span). s.low) n in
    let high : (weighted F (λ x. coef t x +ℤ neg_ℤ (pos 0)) (length F)).high ≡ (weighted F (coef t) (length F)).high = ap (λ (s : Span). s.high) n in
    verdict_on (with_variables F (λ x. coef t x +ℤ neg_ℤ (pos 0)) (length F) (span_add r (span_neg (point b)))) b a.low (omega (arith, ints, l, lows, highs, low, high)) (omega (arith, ints, l, lows, highs, low, high))

none_at : (F : Family) (t : Term) (o : Option Span) → lift1 (with_variables F (coef t) (length F)) o ≡ None → o ≡ None
none_at F t None e = refl
none_at F t (Some r) e = cc

-- the greatest value is no better
pub most_refuted : (F : Family) (g : Objective) (b : ℤ) (a : Span) → g.is_most ≡ true → range F g.term ≡ Some a → a.low ≤ℤ a.high → is_refuted F (better_than g b) ≡ int_le a.high b
most_refuted F g b a m e l = rw m (most_at F g.term b a (rest F g.term) (pure g.term) e l)

-- the least value is no better
pub least_refuted : (F : Family) (g : Objective) (b : ℤ) (a : Span) → g.is_most ≡ false → range F g.term ≡ Some a → a.low ≤ℤ a.high → is_refuted F (better_than g b) ≡ int_le b a.low
least_refuted F g b a m e l = rw m (least_at F g.term b a (rest F g.term) (pure g.term && true) e l)

-- there is no value
pub none_refuted : (F : Family) (g : Objective) (b : ℤ) → range F g.term ≡ None → is_refuted F (better_than g b) ≡ true
none_refuted F g b e =
    let n = none_at F g.term (rest F g.term) e in
    elim (g.is_most) as (λ m. is_refuted F (cond m (Fact.cmp below (Term.const b) g.term) (Fact.cmp below g.term (Term.const b))) ≡ true) [
      | true ↦ rw n refl
      | false ↦ rw n refl
    ]
