-- The range of an expression is told by the ranges of its comparisons with numbers.
use Rattle.std.proofs.Common.{◌≡◌, ◌∙◌, ℕ, Bool, true, false, cond, refl, length, ℤ, pos, ◌+ℤ◌, neg_ℤ, ◌≤ℤ◌, ap, sym, arith}
use Rattle.std.specs.Prelude.{Option, Some, None, int_le, int_lt}
use Rattle.std.proofs.lemmas.Int.{ints}
use Rattle.std.proofs.Math.Path.{fun_ext}
use Rattle.opl_domain.specs.Span.{Span, point}
use Rattle.opl_domain.specs.Arithmetic.{span_add, span_neg}
use Rattle.opl_domain.specs.Family.{Family}
use Rattle.opl_expr.specs.Forms.{Term, Fact}
use Rattle.opl_expr.specs.Forms.Relation.{at_most}
use Rattle.opl_expr.specs.Options.{lift, lift1}
use Rattle.opl_expr.specs.Range.{verdict, weighted, with_variables, compare, coef, pure, rest, range, fact_range}
use Rattle.opl_addends.proofs.Intervals.{same_span}

-- what an interval says of being at most a number
abbrev at_number : ℤ → Span → Span
at_number k r = verdict (int_le (r.high +ℤ neg_ℤ k) (pos 0)) (int_lt (pos 0) (r.low +ℤ neg_ℤ k))

less_moved : (r w k : ℤ) → r +ℤ neg_ℤ k +ℤ w ≡ r +ℤ w +ℤ neg_ℤ k
less_moved r w k = omega (arith, ints)

compared_rest : (F : Family) (c : ℕ → ℤ) (n : ℕ) (p : Bool) (k : ℤ) (r : Option Span) → lift1 (compare at_most F c n p) (lift span_add r (Some (span_neg (point k)))) ≡ lift1 (at_number k) (lift1 (with_variables F c n) r)
unfolding compare with_variables span_add span_neg
compared_rest F c n p k None = refl
compared_rest F c n p k (Some r) = let w = weighted F c n in rw (less_moved r.low w.low k, less_moved r.high w.high k) refl

same_factors : (t : Term) → (λ x. coef t x +ℤ neg_ℤ (pos 0)) ≡ coef t
same_factors t = fun_ext (λ x. plus_nothing (coef t x))
  where
    plus_nothing : (k : ℤ) → k +ℤ neg_ℤ (pos 0) ≡ k
    plus_nothing k = omega (arith, ints)

compared_range : (F : Family) (t : Term) (k : ℤ) → fact_range F (Fact.cmp at_most t (Term.const k)) ≡ lift1 (at_number k) (range F t)
unfolding compare
compared_range F t k =
    ap (λ c. lift1 (compare at_most F c (length F) (cond (pure t) true false)) (lift span_add (rest F t) (Some (span_neg (point k))))) (same_factors t)
    ∙ compared_rest F (coef t) (length F) (cond (pure t) true false) k (rest F t)

-- ---- intervals of which the same is said

one_zero : (b c : Bool) → cond b (pos 1) (pos 0) ≡ cond c (pos 1) (pos 0) → b ≡ c
one_zero true true h = refl
one_zero true false h = cc
one_zero false true h = cc
one_zero false false h = refl

zero_one : (b c : Bool) → cond b (pos 0) (pos 1) ≡ cond c (pos 0) (pos 1) → b ≡ c
zero_one true true h = refl
zero_one true false h = cc
zero_one false true h = cc
zero_one false false h = refl

is_at_most : (x y : ℤ) → int_le (x +ℤ neg_ℤ y) (pos 0) ≡ true → x ≤ℤ y
is_at_most x y h = grind (arith, ints)

at_most_self : (x : ℤ) → int_le (x +ℤ neg_ℤ x) (pos 0) ≡ true
at_most_self x = grind (arith, ints)

not_above : (x y : ℤ) → int_lt (pos 0) (x +ℤ neg_ℤ y) ≡ false → x ≤ℤ y
not_above x y h = grind (arith, ints)

not_above_self : (x : ℤ) → int_lt (pos 0) (x +ℤ neg_ℤ x) ≡ false
not_above_self x = grind (arith, ints)

same_high : (x y : ℤ) → ((k : ℤ) → int_le (x +ℤ neg_ℤ k) (pos 0) ≡ int_le (y +ℤ neg_ℤ k) (pos 0)) → x ≡ y
same_high x y h =
    let p = is_at_most x y (h y ∙ at_most_self y) in
    let q = is_at_most y x (sym (h x) ∙ at_most_self x) in
    omega (arith, ints, p, q)

same_low : (x y : ℤ) → ((k : ℤ) → int_lt (pos 0) (x +ℤ neg_ℤ k) ≡ int_lt (pos 0) (y +ℤ neg_ℤ k)) → x ≡ y
same_low x y h =
    let p = not_above x y (h y ∙ not_above_self y) in
    let q = not_above y x (sym (h x) ∙ not_above_self x) in
    omega (arith, ints, p, q)

same_told : (r s : Option Span) → ((k : ℤ) → lift1 (at_number k) r ≡ lift1 (at_number k) s) → r ≡ s
same_told None None h = refl
same_told None (Some b) h = let e = h (pos 0) in cc
same_told (Some a) None h = let e = h (pos 0) in cc
same_told (Some a) (Some b) h = ap Some (same_span a b
    (same_low a.low b.low (λ k. zero_one (int_lt (pos 0) (a.low +ℤ neg_ℤ k)) (int_lt (pos 0) (b.low +ℤ neg_ℤ k)) (ap high_of (h k))))
    (same_high a.high b.high (λ k. one_zero (int_le (a.high +ℤ neg_ℤ k) (pos 0)) (int_le (b.high +ℤ neg_ℤ k) (pos 0)) (ap low_of (h k)))))
  where
    low_of : Option Span → ℤ
    low_of None = pos 0
    low_of (Some r) = r.low

    high_of : Option Span → ℤ
    high_of None = pos 0
    high_of (Some r) = r.high

-- where all comparisons with numbers have the same ranges, the expression has the same range
pub same_range : (F G : Family) (t : Term) → ((k : ℤ) → fact_range F (Fact.cmp at_most t (Term.const k)) ≡ fact_range G (Fact.cmp at_most t (Term.const k))) → range F t ≡ range G t
same_range F G t h = same_told (range F t) (range G t) (λ k. sym (compared_range F t k) ∙ h k ∙ compared_range G t k)
