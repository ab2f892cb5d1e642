-- The comparisons whose sides are linear, by their normal form: factors and a constant.
use Rattle.std.proofs.Common.{◌≡◌, ◌∙◌, ℕ, Bool, true, false, cond, refl, List, length, ℤ, pos, ◌+ℤ◌, ◌*ℤ◌, neg_ℤ, ◌≤ℤ◌, ap, arith}
use Rattle.std.specs.Prelude.{int_lt, int_le, Some}
use Rattle.std.proofs.lemmas.Int.{ints}
use Rattle.opl_domain.specs.Span.{point, is_point}
use Rattle.opl_domain.specs.Arithmetic.{span_add, span_neg}
use Rattle.opl_domain.specs.Family.{Family, Full, hull}
use Rattle.opl_expr.specs.Forms.{Term, Terms, Fact, Relation}
use Rattle.opl_expr.specs.Forms.Relation.{equal, at_most, below}
use Rattle.opl_expr.specs.Options.{lift1}
use Rattle.opl_expr.specs.Range.{verdict, flip, is_possible, with_variables, never_zero, compare, coef, pure, fact_range}
use Rattle.opl_expr.proofs.Comparisons.{weighted_ordered}
use Rattle.opl_expr.proofs.Narrower.{fixed_part, fixed_parts, pure_is}
use Rattle.opl_range.proofs.Compare.{zero_apart}
use Rattle.opl_filter.specs.Filtering.{refutes}
use Rattle.opl_linear.specs.Linear.{factor_in, least_product, least_weighted, is_above}
use Rattle.opl_linear.specs.Forms.{constant_part, constant_parts}
use Rattle.opl_linear.proofs.Sums.{least_same}

mutual
  -- the two definitions of the constant of an expression say the same
  pub same_part : (t : Term) → constant_part t ≡ fixed_part t
  same_part (Term.const k) = refl
  same_part (Term.var x) = refl
  same_part (Term.sum ts) = same_parts ts
  same_part (Term.neg t) = ap neg_ℤ (same_part t)
  same_part (Term.scale k t) = ap (λ v. k *ℤ v) (same_part t)
  same_part (Term.mul a b) = refl
  same_part (Term.div a b) = refl
  same_part (Term.rem a b) = refl
  same_part (Term.abs a) = refl
  same_part (Term.least ts) = refl
  same_part (Term.greatest ts) = refl
  same_part (Term.at table ts) = refl
  same_part (Term.truth c) = refl
  same_part (Term.asked ask x) = refl

  same_parts : (ts : Terms) → constant_parts ts ≡ fixed_parts ts
  same_parts Terms.no_terms = refl
  same_parts (Terms.more_terms t ts) = rw (same_part t, same_parts ts) refl

-- the factor of each variable in a less b, and the constant of it
abbrev pub difference : Term → Term → ℕ → ℤ
difference a b x = coef a x +ℤ neg_ℤ (coef b x)

abbrev pub difference_fixed : Term → Term → ℤ
difference_fixed a b = fixed_part a +ℤ neg_ℤ (fixed_part b)

pub same_difference : (a b : Term) → constant_part a +ℤ neg_ℤ (constant_part b) ≡ difference_fixed a b
same_difference a b = rw (same_part a, same_part b) refl

point_less : (k l : ℤ) → span_add (point k) (span_neg (point l)) ≡ point (k +ℤ neg_ℤ l)
unfolding span_add span_neg
point_less k l = refl

-- the range of a comparison of linear sides is the verdict on its normal form
pub normal_range : (F : Family) (rel : Relation) (a b : Term) → pure a ≡ true → pure b ≡ true → fact_range F (Fact.cmp rel a b) ≡ Some (compare rel F (difference a b) (length F) true (point (difference_fixed a b)))
normal_range F rel a b p q =
    rw (p, q, pure_is F a p, pure_is F b q, point_less (fixed_part a) (fixed_part b)) refl

-- a verdict is refuted where it is never
pub never_refuted : (s n : Bool) → (s ≡ true → n ≡ false) → cond (is_possible (Some (verdict s n))) false true ≡ n
never_refuted true true h = let e = h refl in cc
never_refuted true false h = refl
never_refuted false true h = refl
never_refuted false false h = refl

-- the opposite of a verdict is refuted where it is sure
pub sure_refuted : (s n : Bool) → (s ≡ true → n ≡ false) → cond (is_possible (Some (flip (verdict s n)))) false true ≡ s
unfolding flip
sure_refuted true true h = let e = h refl in cc
sure_refuted true false h = refl
sure_refuted false true h = refl
sure_refuted false false h = refl

low_is : (F : Family) (c : ℕ → ℤ) (n : ℕ) (k : ℤ) → (with_variables F c n (point k)).low ≡ k +ℤ least_weighted F c n
unfolding with_variables span_add least_weighted
low_is F c n k = refl

ordered : (F : Family) (c : ℕ → ℤ) (n : ℕ) (k : ℤ) → (with_variables F c n (point k)).low ≤ℤ (with_variables F c n (point k)).high
unfolding with_variables span_add
ordered F c n k = omega (arith, ints, weighted_ordered F c n)

apart_at_most : (l h : ℤ) → l ≤ℤ h → int_le h (pos 0) ≡ true → int_lt (pos 0) l ≡ false
apart_at_most l h o e = grind (arith, ints)

apart_below : (l h : ℤ) → l ≤ℤ h → int_lt h (pos 0) ≡ true → int_le (pos 0) l ≡ false
apart_below l h o e = grind (arith, ints)

one_more : (l : ℤ) → int_le (pos 0) l ≡ int_lt (pos 0) (l +ℤ pos 1)
one_more l = grind (arith, ints)

-- `<=` is refuted where its normal form is above 0
pub at_most_refuted : (F : Family) (a b : Term) → pure a ≡ true → pure b ≡ true → refutes (Fact.cmp at_most a b) F ≡ is_above (difference a b) (difference_fixed a b) F
unfolding compare is_above
at_most_refuted F a b p q =
    let d = with_variables F (difference a b) (length F) (point (difference_fixed a b)) in
    ap (λ r. cond (is_possible r) false true) (normal_range F at_most a b p q)
    ∙ never_refuted (int_le d.high (pos 0)) (int_lt (pos 0) d.low) (apart_at_most d.low d.high (ordered F (difference a b) (length F) (difference_fixed a b)))
    ∙ ap (int_lt (pos 0)) (low_is F (difference a b) (length F) (difference_fixed a b))

-- `<` is refuted where one more is above 0
pub below_refuted : (F : Family) (a b : Term) → pure a ≡ true → pure b ≡ true → refutes (Fact.cmp below a b) F ≡ is_above (difference a b) (difference_fixed a b +ℤ pos 1) F
unfolding compare is_above
below_refuted F a b p q =
    let d = with_variables F (difference a b) (length F) (point (difference_fixed a b)) in
    let e : d.low +ℤ pos 1 ≡ difference_fixed a b +ℤ pos 1 +ℤ least_weighted F (difference a b) (length F) = omega (arith, ints, low_is F (difference a b) (length F) (difference_fixed a b)) in
    ap (λ r. cond (is_possible r) false true) (normal_range F below a b p q)
    ∙ never_refuted (int_lt d.high (pos 0)) (int_le (pos 0) d.low) (apart_below d.low d.high (ordered F (difference a b) (length F) (difference_fixed a b)))
    ∙ one_more d.low ∙ ap (int_lt (pos 0)) e

-- `<>` is refuted where its normal form is 0 alone
pub not_equal_refuted : (F : Family) (a b : Term) → Full F → pure a ≡ true → pure b ≡ true → refutes (Fact.not (Fact.cmp equal a b)) F ≡ is_point (pos 0) (with_variables F (difference a b) (length F) (point (difference_fixed a b)))
unfolding compare
not_equal_refuted F a b f p q =
    let c = difference a b in
    let k = difference_fixed a b in
    let d = with_variables F c (length F) (point k) in
    ap (λ r. cond (is_possible (lift1 flip r)) false true) (normal_range F equal a b p q)
    ∙ sure_refuted (is_point (pos 0) d) (never_zero F c (length F) true (point k)) (λ e. zero_apart F f c true (point k) d (omega (arith, ints)) refl e)

-- `=` is refuted where its normal form is never 0
pub equal_refuted : (F : Family) (a b : Term) → Full F → pure a ≡ true → pure b ≡ true → refutes (Fact.cmp equal a b) F ≡ never_zero F (difference a b) (length F) true (point (difference_fixed a b))
unfolding compare
equal_refuted F a b f p q =
    let c = difference a b in
    let k = difference_fixed a b in
    let d = with_variables F c (length F) (point k) in
    ap (λ r. cond (is_possible r) false true) (normal_range F equal a b p q)
    ∙ never_refuted (is_point (pos 0) d) (never_zero F c (length F) true (point k)) (λ e. zero_apart F f c true (point k) d (omega (arith, ints)) refl e)

-- a list that has the same factors serves as well
pub above_listed : (F : Family) (c : ℕ → ℤ) (ps : List (ℕ × ℤ)) (k : ℤ) → ((x : ℕ) → c x ≡ factor_in ps x) → is_above c k F ≡ is_above (factor_in ps) k F
unfolding is_above
above_listed F c ps k h = ap (λ l. int_lt (pos 0) (k +ℤ l)) (least_same F F c (factor_in ps) (length F) (λ y i. ap (λ z. least_product z (hull F y)) (h y)))
