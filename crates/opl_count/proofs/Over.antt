-- Which comparisons of counting sums a family refutes.
use Rattle.std.proofs.Common.{◌≡◌, ◌∙◌, ℕ, zero, suc, ◌+◌, Bool, true, false, cond, ◌&&◌, ◌||◌, refl, length, ℤ, pos, ◌+ℤ◌, ◌*ℤ◌, ◌≤ℤ◌, ◌<ℤ◌, neg_ℤ, inl, inr, ap, sym, arith}
use Rattle.std.specs.Prelude.{int_lt, int_le, nat_lt, Some}
use Rattle.std.specs.Ordering.{int_eq}
use Rattle.std.proofs.lemmas.Int.{ints}
use Rattle.opl_domain.specs.Span.{Span, is_point}
use Rattle.opl_domain.specs.Arithmetic.{span_add, span_neg}
use Rattle.opl_domain.specs.Family.{Family, hull}
use Rattle.opl_domain.proofs.Numbers.{smaller_tells, larger_tells}
use Rattle.opl_expr.specs.declared.model.Core.{Core}
use Rattle.opl_expr.specs.Forms.{Term, Fact, Relation}
use Rattle.opl_expr.specs.Forms.Relation.{equal, at_most, below}
use Rattle.opl_expr.specs.Range.{span_scale, is_possible, weighted, with_variables, never_zero, misses_zero, compare, coef, pure, rest, fact_range}
use Rattle.opl_filter.specs.Filtering.{refutes}
use Rattle.opl_linear.proofs.Normal.{difference, never_refuted}
use Rattle.opl_count.specs.declared.sum.Costs.{Costs}
use Rattle.opl_count.specs.Costs.{prices, is_over}
use Rattle.opl_count.specs.Readings.{excess}
use Rattle.opl_count.proofs.Prices.{less_is, not_less_is}
use Rattle.opl_count.proofs.Ranges.{low_scaled, high_scaled, apart_at_most, apart_below}

-- ---- more is paid than there is room for

above : (x : ℤ) → pos 0 <ℤ x → int_lt (pos 0) x ≡ true
above x h = grind (arith, ints)

not_above : (x : ℤ) → x ≤ℤ pos 0 → int_lt (pos 0) x ≡ false
not_above x h = grind (arith, ints)

less_above : (m n : ℕ) → nat_lt m n ≡ int_lt (pos 0) (pos n +ℤ neg_ℤ (pos m))
less_above m n = elim (nat_lt m n) as (λ b. nat_lt m n ≡ b → b ≡ int_lt (pos 0) (pos n +ℤ neg_ℤ (pos m))) [
  | true ↦ λ e. let l = less_is m n e in sym (above (pos n +ℤ neg_ℤ (pos m)) (omega (arith, ints, l)))
  | false ↦ λ e. let l = not_less_is m n e in sym (not_above (pos n +ℤ neg_ℤ (pos m)) (omega (arith, ints, l)))
] refl

pub over_excess : (core : Core) (c : Costs) (F : Family) → is_over core c F ≡ int_lt (pos 0) (excess core c F)
over_excess core c F = less_above c.room (c.paid + prices core F c.literals)

-- ---- sides without variables beside those of their truths

scaled_none : (k : ℤ) (a : Span) → k ≡ pos 0 → ((span_scale k a).low ≡ pos 0) × ((span_scale k a).high ≡ pos 0)
scaled_none k a e = (
  ap (λ j. (span_scale j a).low) e ∙ low_scaled (pos 0) a ∙ elim (smaller_tells (pos 0 *ℤ a.low) (pos 0 *ℤ a.high)) [ inl s ↦ omega (arith, ints, s.0) | inr s ↦ omega (arith, ints, s.0) ],
  ap (λ j. (span_scale j a).high) e ∙ high_scaled (pos 0) a ∙ elim (larger_tells (pos 0 *ℤ a.low) (pos 0 *ℤ a.high)) [ inl s ↦ omega (arith, ints, s.0) | inr s ↦ omega (arith, ints, s.0) ],
)

add_low : (a b : Span) → (span_add a b).low ≡ a.low +ℤ b.low
unfolding span_add
add_low a b = refl

add_high : (a b : Span) → (span_add a b).high ≡ a.high +ℤ b.high
unfolding span_add
add_high a b = refl

weighted_none : (F : Family) (c : ℕ → ℤ) (n : ℕ) → ((x : ℕ) → c x ≡ pos 0) → ((weighted F c n).low ≡ pos 0) × ((weighted F c n).high ≡ pos 0)
weighted_none F c zero h = (refl, refl)
weighted_none F c (suc n) h =
    let w = weighted_none F c n h in
    let s = scaled_none (c n) (hull F n) (h n) in
    (omega (arith, ints, add_low (weighted F c n) (span_scale (c n) (hull F n)), w.0, s.0), omega (arith, ints, add_high (weighted F c n) (span_scale (c n) (hull F n)), w.1, s.1))

low_is : (F : Family) (c : ℕ → ℤ) (n : ℕ) (r : Span) → (with_variables F c n r).low ≡ r.low +ℤ (weighted F c n).low
unfolding with_variables span_add
low_is F c n r = refl

high_is : (F : Family) (c : ℕ → ℤ) (n : ℕ) (r : Span) → (with_variables F c n r).high ≡ r.high +ℤ (weighted F c n).high
unfolding with_variables span_add
high_is F c n r = refl

less_low : (a b : Span) → (span_add a (span_neg b)).low ≡ a.low +ℤ neg_ℤ b.high
unfolding span_add span_neg
less_low a b = refl

less_high : (a b : Span) → (span_add a (span_neg b)).high ≡ a.high +ℤ neg_ℤ b.low
unfolding span_add span_neg
less_high a b = refl

-- two sides, with their ranges
pub record AreBare (F : Family) (a b : Term) (r s : Span) : Type 0 where
  pub first : (x : ℕ) → coef a x ≡ pos 0
  pub second : (x : ℕ) → coef b x ≡ pos 0
  pub mixed : (pure a && pure b) ≡ false
  pub first_range : rest F a ≡ Some r
  pub second_range : rest F b ≡ Some s
  pub first_ordered : r.low ≤ℤ r.high
  pub second_ordered : s.low ≤ℤ s.high

module _ (F : Family) (a b : Term) (r s : Span) (bare : AreBare F a b r s) where
  abbrev gap : Span
  gap = with_variables F (difference a b) (length F) (span_add r (span_neg s))

  none_between : (x : ℕ) → difference a b x ≡ pos 0
  none_between x = omega (arith, ints, bare.first x, bare.second x)

  gap_low : gap.low ≡ r.low +ℤ neg_ℤ s.high
  gap_low = omega (arith, ints, low_is F (difference a b) (length F) (span_add r (span_neg s)), less_low r s, (weighted_none F (difference a b) (length F) none_between).0)

  gap_high : gap.high ≡ r.high +ℤ neg_ℤ s.low
  gap_high = omega (arith, ints, high_is F (difference a b) (length F) (span_add r (span_neg s)), less_high r s, (weighted_none F (difference a b) (length F) none_between).1)

  gap_ordered : gap.low ≤ℤ gap.high
  gap_ordered = omega (arith, ints, gap_low, gap_high, bare.first_ordered, bare.second_ordered)

  compared_range : (rel : Relation) → fact_range F (Fact.cmp rel a b) ≡ Some (compare rel F (difference a b) (length F) (pure a && pure b) (span_add r (span_neg s)))
  compared_range rel = rw (bare.first_range, bare.second_range) refl

  pub at_most_refuted : refutes (Fact.cmp at_most a b) F ≡ int_lt (pos 0) (r.low +ℤ neg_ℤ s.high)
  unfolding compare
  at_most_refuted =
      ap (λ x. cond (is_possible x) false true) (compared_range at_most) ∙ never_refuted (int_le gap.high (pos 0)) (int_lt (pos 0) gap.low) (apart_at_most gap.low gap.high gap_ordered) ∙ ap (int_lt (pos 0)) gap_low

  one_more : (l m : ℤ) → m ≡ pos 1 +ℤ l → int_le (pos 0) l ≡ int_lt (pos 0) m
  one_more l m e = grind (arith, ints)

  pub below_refuted : refutes (Fact.cmp below a b) F ≡ int_lt (pos 0) (pos 1 +ℤ r.low +ℤ neg_ℤ s.high)
  unfolding compare
  below_refuted =
      ap (λ x. cond (is_possible x) false true) (compared_range below) ∙ never_refuted (int_lt gap.high (pos 0)) (int_le (pos 0) gap.low) (apart_below gap.low gap.high gap_ordered)
      ∙ one_more gap.low (pos 1 +ℤ r.low +ℤ neg_ℤ s.high) (omega (arith, ints, gap_low))

  never_mixed : (c : ℕ → ℤ) (n : ℕ) (p : Bool) (q : Span) → p ≡ false → never_zero F c n p q ≡ misses_zero (with_variables F c n q)
  unfolding never_zero
  never_mixed c n true q e = cc
  never_mixed c n false q e = refl

  point_apart : (d : Span) → is_point (pos 0) d ≡ true → misses_zero d ≡ false
  point_apart d e = let i = both d e in rw (i.0, i.1) refl
    where
      zero_is : (l : ℤ) → int_eq l (pos 0) ≡ true → l ≡ pos 0
      zero_is l h = grind (arith, ints)

      parts : (x y : Bool) → cond x y false ≡ true → (x ≡ true) × (y ≡ true)
      parts true y h = (refl, h)
      parts false y h = cc

      both : (d : Span) → is_point (pos 0) d ≡ true → (d.low ≡ pos 0) × (d.high ≡ pos 0)
      both d h = let p = parts (int_eq d.low (pos 0)) (int_eq d.high (pos 0)) h in (zero_is d.low p.0, zero_is d.high p.1)

  turned : (x y : ℤ) → x ≡ neg_ℤ y → int_lt x (pos 0) ≡ int_lt (pos 0) y
  turned x y e = grind (arith, ints)

  pub equal_refuted : refutes (Fact.cmp equal a b) F ≡ (int_lt (pos 0) (r.low +ℤ neg_ℤ s.high) || int_lt (pos 0) (s.low +ℤ neg_ℤ r.high))
  unfolding compare
  equal_refuted =
      let n = never_mixed (difference a b) (length F) (pure a && pure b) (span_add r (span_neg s)) bare.mixed in
      ap (λ x. cond (is_possible x) false true) (compared_range equal)
      ∙ never_refuted (is_point (pos 0) gap) (never_zero F (difference a b) (length F) (pure a && pure b) (span_add r (span_neg s))) (λ e. n ∙ point_apart gap e)
      ∙ n ∙ ap (λ x. int_lt (pos 0) x || int_lt gap.high (pos 0)) gap_low
      ∙ ap (λ y. int_lt (pos 0) (r.low +ℤ neg_ℤ s.high) || y) (turned gap.high (s.low +ℤ neg_ℤ r.high) (omega (arith, ints, gap_high)))
