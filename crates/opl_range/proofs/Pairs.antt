-- The range of expressions differing pairwise, as the code makes it.
use Rattle.std.proofs.Common.{◌≡◌, ℕ, zero, suc, ◌+◌, ◌-◌, ◌≤◌, ◌<◌, refl, List, [], ◌∷◌, map, length, get_or, drop, ℤ, pos, ap, sym, ◌∙◌, arith}
use Rattle.std.specs.Prelude.{Option}
use Rattle.opl_domain.specs.Span.{Span, point}
use Rattle.opl_domain.specs.Arithmetic.{span_min}
use Rattle.opl_domain.specs.Family.{Family}
use Rattle.opl_expr.specs.declared.forms.Expr.{Expr}
use Rattle.opl_expr.specs.declared.forms.Op.TheVariants.{Ne}
use Rattle.opl_expr.specs.Forms.{Term, Fact, terms_of, compared}
use Rattle.opl_expr.specs.Options.{lift, lift1, lift_onto}
use Rattle.opl_expr.specs.Range.{pairwise, defined_range, differ_range, coef, pure, rest, linears, fact_range}
use Rattle.opl_expr.specs.Sound.{IsSmall, term_magnitude, greatest_magnitude, AreComparable, IsSoundFact}
use Rattle.opl_expr.proofs.Parts.{sound_at}
use Rattle.opl_expr.proofs.Cells.{onto_append}
use Rattle.opl_range.proofs.Parts.{part_before}

-- ---- one expression more

pairs_are : (F : Family) (f : Expr → Term) (t : Term) (es : List Expr) → map (differ_range F (record { coef = coef t; pure = pure t; rest = rest F t })) (linears F (terms_of (map f es))) ≡ map (λ e. fact_range F (compared Ne t (f e))) es
pairs_are F f t [] = refl
pairs_are F f t (e ∷ es) = ap (λ r. fact_range F (compared Ne t (f e)) ∷ r) (pairs_are F f t es)

more_pairs : (F : Family) (f : Expr → Term) (e : Expr) (es : List Expr)
    → fact_range F (Fact.different (terms_of (map f (e ∷ es)))) ≡ lift span_min (lift1 (λ u. point (pos 1)) (rest F (f e))) (lift_onto span_min (map (λ b. fact_range F (compared Ne (f e) (f b))) es) (fact_range F (Fact.different (terms_of (map f es)))))
more_pairs F f e es =
    ap (lift span_min (lift1 (λ u. point (pos 1)) (rest F (f e))))
    (onto_append span_min (point (pos 1)) (map (differ_range F (record { coef = coef (f e); pure = pure (f e); rest = rest F (f e) })) (linears F (terms_of (map f es)))) (pairwise defined_range (differ_range F) (linears F (terms_of (map f es))))
    ∙ ap (λ rs. lift_onto span_min rs (fact_range F (Fact.different (terms_of (map f es))))) (pairs_are F f (f e) es))

pub differ_next : (F : Family) (f : Expr → Term) (xs : List Expr) (L M : ℕ) (e : Expr) (r k found q now : Option Span) → 0 < L → L ≤ length xs → M ≡ L → e ≡ get_or xs (L - 1) e → r ≡ rest F (f e) → k ≡ lift1 (λ u. point (pos 1)) r
    → found ≡ fact_range F (Fact.different (terms_of (map f (drop L xs)))) → now ≡ lift_onto span_min (map (λ b. fact_range F (compared Ne (f e) (f b))) (drop M xs)) found → q ≡ lift span_min k now
    → q ≡ fact_range F (Fact.different (terms_of (map f (drop (L - 1) xs))))
differ_next F f xs L M e r k found q now p h s i j l m n o =
    o ∙ ap (λ z. lift span_min z now) (l ∙ ap (lift1 (λ u. point (pos 1))) j)
    ∙ ap (lift span_min (lift1 (λ u. point (pos 1)) (rest F (f e)))) (n ∙ ap (λ z. lift_onto span_min (map (λ b. fact_range F (compared Ne (f e) (f b))) (drop z xs)) found) s ∙ ap (lift_onto span_min (map (λ b. fact_range F (compared Ne (f e) (f b))) (drop L xs))) m)
    ∙ sym (more_pairs F f e (drop L xs))
    ∙ ap (λ ys. fact_range F (Fact.different (terms_of (map f ys)))) (sym (part_before xs L e p h i))

pub pair_next : (F : Family) (f : Expr → Term) (xs : List Expr) (O : ℕ) (t : Term) (e : Expr) (c found q before : Option Span) → 0 < O → O ≤ length xs → e ≡ get_or xs (O - 1) e → c ≡ fact_range F (compared Ne t (f e))
    → found ≡ lift_onto span_min (map (λ b. fact_range F (compared Ne t (f b))) (drop O xs)) before → q ≡ lift span_min c found → q ≡ lift_onto span_min (map (λ b. fact_range F (compared Ne t (f b))) (drop (O - 1) xs)) before
pair_next F f xs O t e c found q before p h i j k l =
    l ∙ ap (λ z. lift span_min z found) j ∙ ap (lift span_min (fact_range F (compared Ne t (f e)))) k
    ∙ ap (λ ys. lift_onto span_min (map (λ b. fact_range F (compared Ne t (f b))) ys) before) (sym (part_before xs O e p h i))

-- ---- soundness of pairs

within_greatest : (sets : List (ℤ × ℤ)) (f : Expr → Term) (xs : List Expr) (k : ℕ) (e : Expr) → k < length xs → e ≡ get_or xs k e → term_magnitude sets (f e) ≤ greatest_magnitude sets (terms_of (map f xs))
within_greatest sets f [] k e h i = absurd (omega (arith, h))
within_greatest sets f (x ∷ xs) zero e h i = let s : e ≡ x = i in omega (arith, ap (λ z. term_magnitude sets (f z)) s)
within_greatest sets f (x ∷ xs) (suc k) e h i = omega (arith, within_greatest sets f xs k e (omega (arith, h)) i)

comparable_at : (sets : List (ℤ × ℤ)) (f : Expr → Term) (xs : List Expr) (j k : ℕ) (a b : Expr) → j < k → k < length xs → a ≡ get_or xs j a → b ≡ get_or xs k b → AreComparable sets (terms_of (map f xs)) → IsSmall (term_magnitude sets (f a) + term_magnitude sets (f b))
comparable_at sets f [] j k a b h g i l s = absurd (omega (arith, g))
comparable_at sets f (x ∷ xs) zero zero a b h g i l s = absurd (omega (arith, h))
comparable_at sets f (x ∷ xs) zero (suc k) a b h g i l s =
    let e : a ≡ x = i in omega (arith, s.0, ap (λ z. term_magnitude sets (f z)) e, within_greatest sets f xs k b (omega (arith, g)) l)
comparable_at sets f (x ∷ xs) (suc j) zero a b h g i l s = absurd (omega (arith, h))
comparable_at sets f (x ∷ xs) (suc j) (suc k) a b h g i l s = comparable_at sets f xs j k a b (omega (arith, h)) (omega (arith, g)) i l s.1

pub sound_pair_at : (sets : List (ℤ × ℤ)) (f : Expr → Term) (xs : List Expr) (j k : ℕ) (a b : Expr) → j < k → k < length xs → a ≡ get_or xs j a → b ≡ get_or xs k b → IsSoundFact sets (Fact.different (terms_of (map f xs))) → IsSoundFact sets (compared Ne (f a) (f b))
sound_pair_at sets f xs j k a b h g i l s = (comparable_at sets f xs j k a b h g i l s.0, sound_at sets f xs j a (omega (arith, h, g)) i s.1, sound_at sets f xs k b g l s.1)
