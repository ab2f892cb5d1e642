-- The opposite of a comparison of linear sides has the range of the sides compared the other way.
use Rattle.std.proofs.Common.{◌≡◌, ◌∙◌, ℕ, Bool, true, false, not, refl, length, ℤ, pos, ◌+ℤ◌, neg_ℤ, ap, sym, arith}
use Rattle.std.specs.Prelude.{int_lt, int_le, Option, Some, None}
use Rattle.std.proofs.Math.Path.{fun_ext}
use Rattle.std.proofs.lemmas.Int.{ints}
use Rattle.opl_domain.specs.Span.{Span, point}
use Rattle.opl_domain.specs.Arithmetic.{span_add}
use Rattle.opl_domain.specs.Family.{Family}
use Rattle.opl_expr.specs.declared.forms.Op.{Op}
use Rattle.opl_expr.specs.declared.forms.Op.TheVariants.{Eq, Ne, Lt, Le, Gt, Ge}
use Rattle.opl_expr.specs.Forms.{Term, Fact, compared}
use Rattle.opl_expr.specs.Forms.Relation.{equal, at_most, below}
use Rattle.opl_expr.specs.Options.{lift1}
use Rattle.opl_expr.specs.Range.{verdict, flip, with_variables, weighted, compare, coef, pure, fact_range}
use Rattle.opl_linear.proofs.Normal.{difference, difference_fixed, normal_range}
use Rattle.opl_linear.proofs.Carrying.{opposite_sum}
use Rattle.opl_reify.specs.Parts.{opposite_of, signed}

flip_verdict : (s n : Bool) → flip (verdict s n) ≡ verdict n s
unfolding flip
flip_verdict true true = refl
flip_verdict true false = refl
flip_verdict false true = refl
flip_verdict false false = refl

span_same : (a : Span) (l h : ℤ) → l ≡ a.low → h ≡ a.high → record { low = l; high = h } ≡ a
span_same a l h p q = rw (p, q) refl

flip_again : (a : Span) → a ≡ flip (flip a)
unfolding flip
flip_again a = sym (span_same a _ _ (omega (arith, ints)) (omega (arith, ints)))

flips : (r : Option Span) → r ≡ lift1 flip (lift1 flip r)
flips None = refl
flips (Some a) = ap Some (flip_again a)

-- the opposite of an opposite
pub twice : (F : Family) (c : Fact) → fact_range F c ≡ fact_range F (Fact.not (Fact.not c))
twice F c = flips (fact_range F c)

-- ---- the difference the other way has the opposite ends

low_is : (F : Family) (c : ℕ → ℤ) (n : ℕ) (k : ℤ) → (with_variables F c n (point k)).low ≡ k +ℤ (weighted F c n).low
unfolding with_variables span_add
low_is F c n k = refl

high_is : (F : Family) (c : ℕ → ℤ) (n : ℕ) (k : ℤ) → (with_variables F c n (point k)).high ≡ k +ℤ (weighted F c n).high
unfolding with_variables span_add
high_is F c n k = refl

exchanged : (a b : Term) → difference b a ≡ (λ x. neg_ℤ (difference a b x))
exchanged a b = fun_ext (λ x. less_turned (coef a x) (coef b x))
  where
    less_turned : (i j : ℤ) → j +ℤ neg_ℤ i ≡ neg_ℤ (i +ℤ neg_ℤ j)
    less_turned i j = omega (arith, ints)

-- the interval of a less b
abbrev span_of : Family → Term → Term → Span
span_of F a b = with_variables F (difference a b) (length F) (point (difference_fixed a b))

fixed_turned : (a b : Term) → difference_fixed b a ≡ neg_ℤ (difference_fixed a b)
fixed_turned a b = omega (arith, ints)

low_turned : (F : Family) (a b : Term) → (span_of F b a).low ≡ neg_ℤ (span_of F a b).high
low_turned F a b =
    let n = length F in
    let e = ap (λ c. (weighted F c n).low) (exchanged a b) in
    omega (arith, ints, low_is F (difference b a) n (difference_fixed b a), high_is F (difference a b) n (difference_fixed a b), e, opposite_sum F (difference a b) n, fixed_turned a b)

high_turned : (F : Family) (a b : Term) → (span_of F b a).high ≡ neg_ℤ (span_of F a b).low
high_turned F a b = let e = low_turned F b a in omega (arith, ints, e)

below_turned : (x y : ℤ) → x ≡ neg_ℤ y → int_lt x (pos 0) ≡ int_lt (pos 0) y
below_turned x y e = grind (arith, ints)

at_most_turned : (x y : ℤ) → x ≡ neg_ℤ y → int_le (pos 0) x ≡ int_le y (pos 0)
at_most_turned x y e = grind (arith, ints)

most_turned : (x y : ℤ) → x ≡ neg_ℤ y → int_le x (pos 0) ≡ int_le (pos 0) y
most_turned x y e = grind (arith, ints)

above_turned : (x y : ℤ) → x ≡ neg_ℤ y → int_lt (pos 0) x ≡ int_lt y (pos 0)
above_turned x y e = grind (arith, ints)

not_at_most : (F : Family) (a b : Term) → pure a ≡ true → pure b ≡ true → fact_range F (Fact.not (Fact.cmp at_most a b)) ≡ fact_range F (Fact.cmp below b a)
unfolding compare
not_at_most F a b p q =
    let d = span_of F a b in
    let e = span_of F b a in
    ap (lift1 flip) (normal_range F at_most a b p q)
    ∙ ap Some (flip_verdict (int_le d.high (pos 0)) (int_lt (pos 0) d.low))
    ∙ ap Some (ap (λ s. verdict s (int_le d.high (pos 0))) (sym (below_turned e.high d.low (high_turned F a b))) ∙ ap (verdict (int_lt e.high (pos 0))) (sym (at_most_turned e.low d.high (low_turned F a b))))
    ∙ sym (normal_range F below b a q p)

not_below : (F : Family) (a b : Term) → pure a ≡ true → pure b ≡ true → fact_range F (Fact.not (Fact.cmp below a b)) ≡ fact_range F (Fact.cmp at_most b a)
unfolding compare
not_below F a b p q =
    let d = span_of F a b in
    let e = span_of F b a in
    ap (lift1 flip) (normal_range F below a b p q)
    ∙ ap Some (flip_verdict (int_lt d.high (pos 0)) (int_le (pos 0) d.low))
    ∙ ap Some (ap (λ s. verdict s (int_lt d.high (pos 0))) (sym (most_turned e.high d.low (high_turned F a b))) ∙ ap (verdict (int_le e.high (pos 0))) (sym (above_turned e.low d.high (low_turned F a b))))
    ∙ sym (normal_range F at_most b a q p)

pub opposite_range : (F : Family) (op : Op) (a b : Term) → pure a ≡ true → pure b ≡ true → fact_range F (Fact.not (compared op a b)) ≡ fact_range F (compared (opposite_of op) a b)
opposite_range F Eq a b p q = refl
opposite_range F Ne a b p q = sym (twice F (Fact.cmp equal a b))
opposite_range F Lt a b p q = not_below F a b p q
opposite_range F Le a b p q = not_at_most F a b p q
opposite_range F Gt a b p q = not_below F b a q p
opposite_range F Ge a b p q = not_at_most F b a q p

-- ---- a constraint or its opposite, where it is a negation

pub signed_not : (F : Family) (o : Bool) (c : Fact) → fact_range F (signed o (Fact.not c)) ≡ fact_range F (signed (not o) c)
signed_not F true c = sym (twice F c)
signed_not F false c = refl
