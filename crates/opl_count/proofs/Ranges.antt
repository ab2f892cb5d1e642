-- The ranges of comparisons of linear sides, and of their opposites: they are there, and their ends are in order.
use Rattle.std.proofs.Common.{◌≡◌, ◌∙◌, ◌⊎◌, ℕ, zero, suc, Bool, true, false, cond, refl, length, ℤ, pos, negsuc, ◌+ℤ◌, ◌*ℤ◌, ◌≤ℤ◌, neg_ℤ, inl, inr, ap, sym, subst, arith}
use Rattle.std.specs.Prelude.{int_lt, int_le, unsigned_abs, Option, Some}
use Rattle.std.proofs.lemmas.Int.{ints}
use Rattle.opl_domain.specs.Span.{Span, point, is_point, smaller, larger}
use Rattle.opl_domain.specs.Arithmetic.{span_add}
use Rattle.opl_domain.specs.Family.{Family, Full}
use Rattle.opl_domain.proofs.Numbers.{smaller_tells, larger_tells}
use Rattle.opl_expr.specs.declared.model.Core.{Core}
use Rattle.opl_expr.specs.declared.forms.Cons.{Cons}
use Rattle.opl_expr.specs.declared.forms.Op.{Op}
use Rattle.opl_expr.specs.declared.forms.Op.TheVariants.{Eq, Ne, Lt, Le, Gt, Ge}
use Rattle.opl_expr.specs.Forms.{Term, Fact, fact, compared, Relation}
use Rattle.opl_expr.specs.Forms.Relation.{equal, at_most, below}
use Rattle.opl_expr.specs.Options.{lift1}
use Rattle.opl_expr.specs.Range.{verdict, flip, span_scale, is_possible, with_variables, never_zero, compare, pure, fact_range}
use Rattle.opl_expr.proofs.Comparisons.{weighted_ordered}
use Rattle.opl_expr.proofs.Plain.{fact_Cmp, fact_Not}
use Rattle.opl_range.specs.Magnitudes.{IsTruth}
use Rattle.opl_range.proofs.Compare.{zero_apart}
use Rattle.opl_filter.specs.Filtering.{refutes}
use Rattle.opl_linear.proofs.Normal.{difference, difference_fixed, normal_range}
use Rattle.opl_reify.specs.Literals.{IsLiteral}
use Rattle.opl_count.specs.Readings.{least_of, is_turned}

-- the range is there, with its ends in order
pub record IsOrdered (x : Option Span) : Type 0 where
  pub range : Span
  pub is : x ≡ Some range
  pub ordered : range.low ≤ℤ range.high

verdict_ordered : (s n : Bool) → (s ≡ true → n ≡ false) → (verdict s n).low ≤ℤ (verdict s n).high
verdict_ordered true true h = let e = h refl in cc
verdict_ordered true false h = omega (arith, ints)
verdict_ordered false true h = omega (arith, ints)
verdict_ordered false false h = omega (arith, ints)

pub apart_at_most : (l h : ℤ) → l ≤ℤ h → int_le h (pos 0) ≡ true → int_lt (pos 0) l ≡ false
apart_at_most l h o e = grind (arith, ints)

pub apart_below : (l h : ℤ) → l ≤ℤ h → int_lt h (pos 0) ≡ true → int_le (pos 0) l ≡ false
apart_below l h o e = grind (arith, ints)

pub ends_ordered : (F : Family) (c : ℕ → ℤ) (n : ℕ) (r : Span) → r.low ≤ℤ r.high → (with_variables F c n r).low ≤ℤ (with_variables F c n r).high
unfolding with_variables span_add
ends_ordered F c n r o = omega (arith, ints, weighted_ordered F c n, o)

relation_ordered : (F : Family) (rel : Relation) (a b : Term) → Full F → pure a ≡ true → pure b ≡ true → IsOrdered (fact_range F (Fact.cmp rel a b))
unfolding compare
relation_ordered F equal a b f p q =
    let c = difference a b in
    let k = difference_fixed a b in
    let d = with_variables F c (length F) (point k) in
    record {
      range = compare equal F c (length F) true (point k);
      is = normal_range F equal a b p q;
      ordered = verdict_ordered (is_point (pos 0) d) (never_zero F c (length F) true (point k)) (λ e. zero_apart F f c true (point k) d (omega (arith, ints)) refl e);
    }
relation_ordered F at_most a b f p q =
    let c = difference a b in
    let k = difference_fixed a b in
    let d = with_variables F c (length F) (point k) in
    record {
      range = compare at_most F c (length F) true (point k);
      is = normal_range F at_most a b p q;
      ordered = verdict_ordered (int_le d.high (pos 0)) (int_lt (pos 0) d.low) (apart_at_most d.low d.high (ends_ordered F c (length F) (point k) (omega (arith, ints))));
    }
relation_ordered F below a b f p q =
    let c = difference a b in
    let k = difference_fixed a b in
    let d = with_variables F c (length F) (point k) in
    record {
      range = compare below F c (length F) true (point k);
      is = normal_range F below a b p q;
      ordered = verdict_ordered (int_lt d.high (pos 0)) (int_le (pos 0) d.low) (apart_below d.low d.high (ends_ordered F c (length F) (point k) (omega (arith, ints))));
    }

flip_ordered : (r : Span) → r.low ≤ℤ r.high → (flip r).low ≤ℤ (flip r).high
unfolding flip
flip_ordered r o = omega (arith, ints, o)

flipped : (x : Option Span) → IsOrdered x → IsOrdered (lift1 flip x)
flipped x o = record { range = flip o.range; is = ap (lift1 flip) o.is; ordered = flip_ordered o.range o.ordered }

comparison_ordered : (F : Family) (op : Op) (a b : Term) → Full F → pure a ≡ true → pure b ≡ true → IsOrdered (fact_range F (compared op a b))
comparison_ordered F Eq a b f p q = relation_ordered F equal a b f p q
comparison_ordered F Ne a b f p q = flipped (fact_range F (Fact.cmp equal a b)) (relation_ordered F equal a b f p q)
comparison_ordered F Lt a b f p q = relation_ordered F below a b f p q
comparison_ordered F Le a b f p q = relation_ordered F at_most a b f p q
comparison_ordered F Gt a b f p q = relation_ordered F below b a f q p
comparison_ordered F Ge a b f p q = relation_ordered F at_most b a f q p

pub literal_ordered : (core : Core) (F : Family) (n : ℕ) (c : Cons) → Full F → IsLiteral core n c → IsOrdered (fact_range F (fact core.tables core.resources c))
literal_ordered core F zero c f m =
    let e = ap (fact core.tables core.resources) m.is ∙ fact_Cmp core.tables core.resources m.op m.left m.right in
    subst (λ d. IsOrdered (fact_range F d)) (sym e) (comparison_ordered F m.op _ _ f m.first m.second)
literal_ordered core F (suc n) c f l =
    let e = ap (fact core.tables core.resources) l.1 ∙ fact_Not core.tables core.resources l.0 in
    subst (λ d. IsOrdered (fact_range F d)) (sym e) (flipped (fact_range F (fact core.tables core.resources l.0)) (literal_ordered core F n l.0 f l.2))

-- ---- truths

zero_or_one : (i : ℤ) → pos 0 ≤ℤ i → i ≤ℤ pos 1 → (i ≡ pos 0) ⊎ (i ≡ pos 1)
zero_or_one (pos zero) l h = inl refl
zero_or_one (pos (suc zero)) l h = inr refl
zero_or_one (pos (suc (suc n))) l h = absurd (omega (arith, ints, h))
zero_or_one (negsuc n) l h = absurd (omega (arith, ints, l))

-- false, open or true
pub data IsOneOf (r : Span) : Type 0 where
  never : r.low ≡ pos 0 → r.high ≡ pos 0 → IsOneOf r
  either : r.low ≡ pos 0 → r.high ≡ pos 1 → IsOneOf r
  surely : r.low ≡ pos 1 → r.high ≡ pos 1 → IsOneOf r

pub one_of : (r : Span) → IsTruth r → r.low ≤ℤ r.high → IsOneOf r
one_of r t o = elim (zero_or_one r.low t.low_least t.low_most) [
  | inl l ↦ elim (zero_or_one r.high t.high_least t.high_most) [
    | inl h ↦ IsOneOf.never l h
    | inr h ↦ IsOneOf.either l h
  ]
  | inr l ↦ elim (zero_or_one r.high t.high_least t.high_most) [
    | inl h ↦ absurd (omega (arith, ints, l, h, o))
    | inr h ↦ IsOneOf.surely l h
  ]
]

twice_not : (b : Bool) → cond (cond b false true) false true ≡ b
twice_not true = refl
twice_not false = refl

pub refuted_point : (F : Family) (c : Fact) (r : Span) → fact_range F c ≡ Some r → refutes c F ≡ is_point (pos 0) r
refuted_point F c r e = ap (λ o. cond (is_possible o) false true) e ∙ twice_not (is_point (pos 0) r)

-- what is paid for a truth that is to be false
pub low_price : (r : Span) (w : ℕ) → IsOneOf r → pos (cond (is_point (pos 0) (flip r)) w 0) ≡ pos w *ℤ r.low
unfolding flip
low_price r w (IsOneOf.never l h) = rw (l, h) (omega (arith, ints))
low_price r w (IsOneOf.either l h) = rw (l, h) (omega (arith, ints))
low_price r w (IsOneOf.surely l h) = rw (l, h) (omega (arith, ints))

-- and for one that is to be true, beside its room
pub high_price : (r : Span) (w : ℕ) → IsOneOf r → pos (cond (is_point (pos 0) r) w 0) +ℤ neg_ℤ (pos w) ≡ pos w *ℤ neg_ℤ r.high
high_price r w (IsOneOf.never l h) = rw (l, h) (omega (arith, ints))
high_price r w (IsOneOf.either l h) = rw (l, h) (omega (arith, ints))
high_price r w (IsOneOf.surely l h) = rw (l, h) (omega (arith, ints))

-- ---- multiples

smaller_is : (x y : ℤ) → x ≤ℤ y → smaller x y ≡ x
smaller_is x y l = elim (smaller_tells x y) [ inl s ↦ s.0 | inr s ↦ omega (arith, ints, s.0, s.1, l) ]

larger_is : (x y : ℤ) → x ≤ℤ y → larger x y ≡ y
larger_is x y l = elim (larger_tells x y) [ inl s ↦ s.0 | inr s ↦ omega (arith, ints, s.0, s.1, l) ]

smaller_turned : (x y : ℤ) → y ≤ℤ x → smaller x y ≡ y
smaller_turned x y l = elim (smaller_tells x y) [ inl s ↦ omega (arith, ints, s.0, s.1, l) | inr s ↦ s.0 ]

larger_turned : (x y : ℤ) → y ≤ℤ x → larger x y ≡ x
larger_turned x y l = elim (larger_tells x y) [ inl s ↦ omega (arith, ints, s.0, s.1, l) | inr s ↦ s.0 ]

pub low_scaled : (k : ℤ) (r : Span) → (span_scale k r).low ≡ smaller (k *ℤ r.low) (k *ℤ r.high)
unfolding span_scale
low_scaled k r = refl

pub high_scaled : (k : ℤ) (r : Span) → (span_scale k r).high ≡ larger (k *ℤ r.low) (k *ℤ r.high)
unfolding span_scale
high_scaled k r = refl

abbrev Bit : ℤ → Type 0
Bit i = (i ≡ pos 0) ⊎ (i ≡ pos 1)

low_bit : (r : Span) → IsOneOf r → Bit r.low
low_bit r (IsOneOf.never l h) = inl l
low_bit r (IsOneOf.either l h) = inl l
low_bit r (IsOneOf.surely l h) = inr l

high_bit : (r : Span) → IsOneOf r → Bit r.high
high_bit r (IsOneOf.never l h) = inl h
high_bit r (IsOneOf.either l h) = inr h
high_bit r (IsOneOf.surely l h) = inr h

more_up : (k : ℤ) (r : Span) → pos 0 ≤ℤ k → IsOneOf r → (k *ℤ r.low) ≤ℤ (k *ℤ r.high)
more_up k r p (IsOneOf.never l h) = rw (l, h) (omega (arith, ints))
more_up k r p (IsOneOf.either l h) = rw (l, h) (omega (arith, ints, p))
more_up k r p (IsOneOf.surely l h) = rw (l, h) (omega (arith, ints))

more_down : (k : ℤ) (r : Span) → k ≤ℤ pos 0 → IsOneOf r → (k *ℤ r.high) ≤ℤ (k *ℤ r.low)
more_down k r p (IsOneOf.never l h) = rw (l, h) (omega (arith, ints))
more_down k r p (IsOneOf.either l h) = rw (l, h) (omega (arith, ints, p))
more_down k r p (IsOneOf.surely l h) = rw (l, h) (omega (arith, ints))

times_up : (k i : ℤ) → pos 0 ≤ℤ k → Bit i → k *ℤ i ≡ pos (unsigned_abs k) *ℤ i
times_up k i p (inl e) = rw e (omega (arith, ints))
times_up k i p (inr e) = rw e (omega (arith, ints, p))

times_down : (k i : ℤ) → k ≤ℤ pos 0 → Bit i → k *ℤ i ≡ pos (unsigned_abs k) *ℤ neg_ℤ i
times_down k i p (inl e) = rw e (omega (arith, ints))
times_down k i p (inr e) = rw e (omega (arith, ints, p))

opposite_up : (k i : ℤ) → pos 0 ≤ℤ k → Bit i → neg_ℤ (k *ℤ i) ≡ pos (unsigned_abs k) *ℤ neg_ℤ i
opposite_up k i p (inl e) = rw e (omega (arith, ints))
opposite_up k i p (inr e) = rw e (omega (arith, ints, p))

opposite_down : (k i : ℤ) → k ≤ℤ pos 0 → Bit i → neg_ℤ (k *ℤ i) ≡ pos (unsigned_abs k) *ℤ i
opposite_down k i p (inl e) = rw e (omega (arith, ints))
opposite_down k i p (inr e) = rw e (omega (arith, ints, p))

pub not_below : (k : ℤ) → int_lt k (pos 0) ≡ false → pos 0 ≤ℤ k
not_below k e = grind (arith, ints)

pub is_below : (k : ℤ) → int_lt k (pos 0) ≡ true → k ≤ℤ pos 0
is_below k e = grind (arith, ints)

-- the least of a multiple of a truth is that multiple of its least, or of its greatest
pub scaled_least : (o : Bool) (k : ℤ) (r : Span) → IsOneOf r → least_of o (span_scale k r) ≡ pos (unsigned_abs k) *ℤ least_of (is_turned o k) r
scaled_least false k r t =
    elim (int_lt k (pos 0)) as (λ b. int_lt k (pos 0) ≡ b → (span_scale k r).low ≡ pos (unsigned_abs k) *ℤ least_of (cond b true false) r) [
      | true ↦ λ e. low_scaled k r ∙ smaller_turned (k *ℤ r.low) (k *ℤ r.high) (more_down k r (is_below k e) t) ∙ times_down k r.high (is_below k e) (high_bit r t)
      | false ↦ λ e. low_scaled k r ∙ smaller_is (k *ℤ r.low) (k *ℤ r.high) (more_up k r (not_below k e) t) ∙ times_up k r.low (not_below k e) (low_bit r t)
    ] refl
scaled_least true k r t =
    elim (int_lt k (pos 0)) as (λ b. int_lt k (pos 0) ≡ b → neg_ℤ (span_scale k r).high ≡ pos (unsigned_abs k) *ℤ least_of (cond b false true) r) [
      | true ↦ λ e. ap neg_ℤ (high_scaled k r ∙ larger_turned (k *ℤ r.low) (k *ℤ r.high) (more_down k r (is_below k e) t)) ∙ opposite_down k r.low (is_below k e) (low_bit r t)
      | false ↦ λ e. ap neg_ℤ (high_scaled k r ∙ larger_is (k *ℤ r.low) (k *ℤ r.high) (more_up k r (not_below k e) t)) ∙ opposite_up k r.high (not_below k e) (high_bit r t)
    ] refl

pub scaled_ordered : (k : ℤ) (r : Span) → IsOneOf r → (span_scale k r).low ≤ℤ (span_scale k r).high
scaled_ordered k r t =
    elim (int_lt k (pos 0)) as (λ b. int_lt k (pos 0) ≡ b → (span_scale k r).low ≤ℤ (span_scale k r).high) [
      | true ↦ λ e. omega (arith, ints, low_scaled k r, high_scaled k r, smaller_turned (k *ℤ r.low) (k *ℤ r.high) (more_down k r (is_below k e) t), larger_turned (k *ℤ r.low) (k *ℤ r.high) (more_down k r (is_below k e) t), more_down k r (is_below k e) t)
      | false ↦ λ e. omega (arith, ints, low_scaled k r, high_scaled k r, smaller_is (k *ℤ r.low) (k *ℤ r.high) (more_up k r (not_below k e) t), larger_is (k *ℤ r.low) (k *ℤ r.high) (more_up k r (not_below k e) t), more_up k r (not_below k e) t)
    ] refl
