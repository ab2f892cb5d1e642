-- What holds of one test holds of another that says the same of all families of n variables without an empty set.
use Rattle.std.proofs.Common.{◌≡◌, ◌∙◌, ℕ, zero, suc, Bool, true, false, cond, ◌||◌, refl, List, [], ◌∷◌, length, ℤ, pos, ◌+ℤ◌, neg_ℤ, ap, sym, arith}
use Rattle.std.specs.Prelude.{int_lt}
use Rattle.std.proofs.Math.Path.{fun_ext}
use Rattle.std.proofs.lemmas.Int.{ints}
use Rattle.opl_domain.specs.Span.{Span, point, is_point, smaller, larger}
use Rattle.opl_domain.specs.Arithmetic.{span_add}
use Rattle.opl_expr.proofs.Ring.{neg_times}
use Rattle.opl_domain.specs.Family.{Family, IsFamily, Full, hull, only, cut_of}
use Rattle.opl_domain.proofs.Sets.{length-only, length-cut}
use Rattle.opl_expr.specs.declared.forms.Op.{Op}
use Rattle.opl_expr.specs.declared.forms.Op.TheVariants.{Eq, Ne, Lt, Le, Gt, Ge}
use Rattle.opl_expr.specs.Forms.{Term, Fact, compared}
use Rattle.opl_expr.specs.Forms.Relation.{equal}
use Rattle.opl_expr.specs.Range.{span_scale, pure, weighted, with_variables, never_zero, is_one_or_two, has_zero}
use Rattle.opl_trace.specs.Stable.{IsStable, IsStableWithin}
use Rattle.opl_trace.proofs.Families.{only_full}
use Rattle.opl_trace.proofs.StoredSets.{cut_is_family}
use Rattle.opl_filter.specs.declared.outcome.Outcome.{Outcome}
use Rattle.opl_filter.specs.declared.outcome.Outcome.TheVariants as outcome
use Rattle.opl_filter.specs.Filtering.{EachCanGo, IsLeftOf, IsBetween, Filters, refutes}
use Rattle.opl_linear.specs.Linear.{factor_in, is_above, is_zero, least_weighted}
use Rattle.opl_linear.specs.Alternating.{either}
use Rattle.opl_linear.specs.Forms.{kind_of, left_of, right_of, rejects}
use Rattle.opl_linear.specs.Laws.{factors_of, constant_of, is_short, ComparisonsByForms, ComparisonsFilter, EqualByValues}
use Rattle.opl_linear.proofs.Normal.{difference, difference_fixed, same_difference, equal_refuted, not_equal_refuted, at_most_refuted, below_refuted}

abbrev pub SaysTheSame : ℕ → (Family → Bool) → (Family → Bool) → Type 0
SaysTheSame n dead other = (F : Family) → Full F → length F ≡ n → dead F ≡ other F

module _ (n : ℕ) (dead other : Family → Bool) (same : SaysTheSame n dead other) where
  each_carried : (D : Family) (gone : List (ℕ × ℤ)) → IsFamily D → length D ≡ n → EachCanGo dead D gone → EachCanGo other D gone
  each_carried D [] f l h = tt
  each_carried D (p ∷ gone) f l h = (
    record {
      dead_value = record {
        variable = h.0.dead_value.variable;
        value = h.0.dead_value.value;
        is_dead = sym (same (only D p.0 p.1) (only_full D p.0 p.1 f.full) (length-only D p.0 p.1 ∙ l)) ∙ h.0.dead_value.is_dead;
      };
      stays = h.0.stays;
    },
    each_carried (cut_of D p.0 p.1 p.1) gone (cut_is_family D p.0 p.1 p.1 f h.0.dead_value.variable h.0.stays) (length-cut D p.0 p.1 p.1 ∙ l) h.1,
  )

  left_carried : (D F : Family) → IsFamily D → length D ≡ n → IsLeftOf dead D F → IsLeftOf other D F
  left_carried D F f l a = record { gone = a.gone; each = each_carried D a.gone f l a.each; left = a.left }

  stable_carried : (F : Family) → length F ≡ n → IsStable dead F → IsStable other F
  stable_carried F l s = record {
    full = s.full;
    spared = sym (same F s.full l) ∙ s.spared;
    each = λ x v h m. sym (same (only F x v) (only_full F x v s.full) (length-only F x v ∙ l)) ∙ s.each x v h m;
  }

  within_carried : (D F : Family) → length D ≡ n → IsStableWithin dead D F → IsStableWithin other D F
  within_carried D F l s = record { stable = stable_carried F (s.within.same ∙ l) s.stable; within = s.within }

module _ (n : ℕ) (dead other : Family → Bool) (same : SaysTheSame n dead other) where
  back : SaysTheSame n other dead
  back F f l = sym (same F f l)

  pub between_carried : (D F : Family) → IsFamily D → length D ≡ n → IsBetween dead D F → IsBetween other D F
  between_carried D F f l b = record { removals = left_carried n dead other same D F f l b.removals; below = b.below; sets = b.sets }

  pub outcome_carried : (D F : Family) (o : Outcome) → length D ≡ n → Filters dead D F o → Filters other D F o
  outcome_carried D F outcome.Stable l g = record {
    is_stable = within_carried n dead other same D F l g.is_stable;
    most = λ G s. g.most G (within_carried n other dead back D G l s);
  }
  outcome_carried D F outcome.Failed l h = λ G s. h G (within_carried n other dead back D G l s)

-- ---- `=` by ends

add_low : (a b : Span) → (span_add a b).low ≡ a.low +ℤ b.low
unfolding span_add
add_low a b = refl

add_high : (a b : Span) → (span_add a b).high ≡ a.high +ℤ b.high
unfolding span_add
add_high a b = refl

opposite_product : (k : ℤ) (a : Span) → (span_scale k a).high ≡ neg_ℤ (span_scale (neg_ℤ k) a).low
unfolding span_scale smaller larger
opposite_product k a = grind (arith, ints, neg_times)

high_more : (F : Family) (c : ℕ → ℤ) (n : ℕ) → (weighted F c (suc n)).high ≡ (weighted F c n).high +ℤ (span_scale (c n) (hull F n)).high
high_more F c n = add_high (weighted F c n) (span_scale (c n) (hull F n))

low_more : (F : Family) (c : ℕ → ℤ) (n : ℕ) → (weighted F c (suc n)).low ≡ (weighted F c n).low +ℤ (span_scale (c n) (hull F n)).low
low_more F c n = add_low (weighted F c n) (span_scale (c n) (hull F n))

pub opposite_sum : (F : Family) (c : ℕ → ℤ) (n : ℕ) → (weighted F c n).high ≡ neg_ℤ (weighted F (λ x. neg_ℤ (c x)) n).low
opposite_sum F c zero = omega (arith, ints)
opposite_sum F c (suc n) = omega (arith, ints, high_more F c n, low_more F (λ x. neg_ℤ (c x)) n, opposite_sum F c n, opposite_product (c n) (hull F n))

misses_either : (l h k : ℤ) → (int_lt (pos 0) (k +ℤ l) || int_lt (k +ℤ neg_ℤ h) (pos 0)) ≡ (int_lt (pos 0) (k +ℤ l) || int_lt (pos 0) (neg_ℤ k +ℤ h))
misses_either l h k = ap (λ b. int_lt (pos 0) (k +ℤ l) || b) (turned (k +ℤ neg_ℤ h) (neg_ℤ k +ℤ h) (omega (arith, ints)))
  where
    turned : (x y : ℤ) → x ≡ neg_ℤ y → int_lt x (pos 0) ≡ int_lt (pos 0) y
    turned x y e = grind (arith, ints)

-- where it is decided by its ends, `=` is refuted where its form is above 0, or that of the opposite factors is
pub equal_by_ends : (F : Family) (a b : Term) → Full F → pure a ≡ true → pure b ≡ true → is_one_or_two (difference a b) (length F) ≡ false
    → refutes (Fact.cmp equal a b) F ≡ either (is_above (difference a b) (difference_fixed a b)) (is_above (λ x. neg_ℤ (difference a b x)) (neg_ℤ (difference_fixed a b))) F
unfolding never_zero with_variables span_add is_above least_weighted
equal_by_ends F a b f p q e =
    let c = difference a b in
    let k = difference_fixed a b in
    equal_refuted F a b f p q
    ∙ rw (e, opposite_sum F c (length F)) (misses_either (weighted F c (length F)).low (weighted F (λ x. neg_ℤ (c x)) (length F)).low k)

-- ---- the laws

zero_same : (c : ℕ → ℤ) (k : ℤ) (F : Family) → is_point (pos 0) (with_variables F c (length F) (point k)) ≡ is_zero c k F
unfolding is_zero
zero_same c k F = refl

by_kind : (op : Op) (a b : Term) (F : Family) → Full F → pure a ≡ true → pure b ≡ true → (op ≡ Eq → is_short a b F ≡ false) → refutes (compared op a b) F ≡ rejects (kind_of op) (difference (left_of op a b) (right_of op a b)) (difference_fixed (left_of op a b) (right_of op a b)) F
by_kind Eq a b F f p q n = equal_by_ends F a b f p q (n refl)
by_kind Ne a b F f p q n = not_equal_refuted F a b f p q ∙ zero_same (difference a b) (difference_fixed a b) F
by_kind Lt a b F f p q n = below_refuted F a b p q
by_kind Le a b F f p q n = at_most_refuted F a b p q
by_kind Gt a b F f p q n = below_refuted F b a q p
by_kind Ge a b F f p q n = at_most_refuted F b a q p

pub comparisons_by_forms : ComparisonsByForms
comparisons_by_forms op a b F f p q n =
    by_kind op a b F f p q n ∙ ap (λ k. rejects (kind_of op) (difference (left_of op a b) (right_of op a b)) k F) (sym (same_difference (left_of op a b) (right_of op a b)))

by_values : (F : Family) (c : ℕ → ℤ) (k : ℤ) → is_one_or_two c (length F) ≡ true → never_zero F c (length F) true (point k) ≡ cond (has_zero F c k (length F)) false true
unfolding never_zero
by_values F c k e = rw e refl

pub equal_by_values : EqualByValues
equal_by_values a b F f p q e =
    equal_refuted F a b f p q ∙ by_values F (difference a b) (difference_fixed a b) e
    ∙ ap (λ k. cond (has_zero F (difference a b) k (length F)) false true) (sym (same_difference a b))

pub comparisons_filter : ComparisonsFilter
comparisons_filter op a b ps D F o f p q n h i g =
    let k = constant_of (left_of op a b) (right_of op a b) in
    let same : SaysTheSame (length D) (rejects (kind_of op) (factor_in ps) k) (refutes (compared op a b)) = λ G w e.
    ap (λ c. rejects (kind_of op) c k G) (fun_ext h) ∙ sym (comparisons_by_forms op a b G w p q (λ j. ap (is_one_or_two (factors_of a b)) e ∙ n j)) in
    (between_carried (length D) (rejects (kind_of op) (factor_in ps) k) (refutes (compared op a b)) same D F f refl i, outcome_carried (length D) (rejects (kind_of op) (factor_in ps) k) (refutes (compared op a b)) same D F o refl g)
