-- What a family refutes of a constraint that parts differ.
use Rattle.std.proofs.Common.{◌≡◌, ◌≢◌, ◌∙◌, ◌⊎◌, ℕ, suc, ◌<◌, Bool, true, false, cond, ◌||◌, ◌&&◌, refl, List, [], ◌∷◌, ◌++◌, map, length, ℤ, pos, ◌+ℤ◌, neg_ℤ, get_or, ap, sym, subst, arith, inl, inr}
use Rattle.std.specs.Prelude.{Option, Some}
use Rattle.std.specs.Ordering.{int_eq}
use Rattle.std.proofs.lemmas.Int.{ints}
use Rattle.std.proofs.lemmas.Bool.{cases_eq}
use Rattle.std.proofs.lemmas.Bool.Decides.{Decides-int_eq}
use Rattle.opl_domain.specs.Span.{Span, smaller, point, is_point}
use Rattle.opl_domain.specs.Arithmetic.{span_add, span_min}
use Rattle.opl_domain.specs.Family.{Family, Full}
use Rattle.opl_domain.proofs.Members.{between_is}
use Rattle.opl_expr.specs.Forms.{Term, Terms, Fact}
use Rattle.opl_expr.specs.Forms.Relation.{equal}
use Rattle.opl_expr.specs.Options.{lift1, lift, lift_all}
use Rattle.opl_expr.specs.Range.{Linear, verdict, flip, is_possible, weighted, with_variables, never_zero, compare, pairwise, defined_range, differ_range, linears, coef, pure, rest, fact_range}
use Rattle.opl_expr.proofs.Narrower.{pure_is}
use Rattle.opl_range.proofs.Compare.{zero_apart}
use Rattle.opl_linear.proofs.Normal.{difference, difference_fixed, same_part, normal_range, sure_refuted}
use Rattle.opl_all_different.specs.declared.part.Part.{Part}
use Rattle.opl_all_different.specs.Parts.{nothing, numbers_of, value_with, meets, meets_any, clashes, AreApart, IsThere, IsPartOf, ArePartsOf}
use Rattle.opl_all_different.specs.Laws.{DifferentByParts}
use Rattle.opl_all_different.proofs.Meetings.{zero_or_not, numbers_some, meets_to, meets_from}
use Rattle.opl_all_different.proofs.Sums.{apart_sum, factor_there, factor_none, scaled, part_sum, in_scaled, low_among, high_among}

-- ---- two parts

-- no variable has a factor in both
one_none : (s t : Term) (n : ℕ) (p q : Part) → IsPartOf n s p → IsPartOf n t q → AreApart p q → (y : ℕ) → (coef s y ≡ pos 0) ⊎ (coef t y ≡ pos 0)
one_none s t n p q i j a y = elim (zero_or_not p.factor) [
  | inl e ↦ inl (i.factors y ∙ factor_none p y e)
  | inr m ↦ elim (zero_or_not q.factor) [
    | inl e ↦ inr (j.factors y ∙ factor_none q y e)
    | inr o ↦ elim (cases_eq y p.variable) [
      | inl e ↦ inr (j.factors y ∙ factor_there q y (λ d. a m o (sym e ∙ d)))
      | inr d ↦ inl (i.factors y ∙ factor_there p y d)
    ]
  ]
]

-- the difference is 0 alone where all values are the same
pub same_values : (F : Family) (p q : Part) → Full F → IsThere (length F) p → IsThere (length F) q → (l h : ℤ)
    → l ≡ p.constant +ℤ (scaled F p).low +ℤ neg_ℤ (q.constant +ℤ (scaled F q).high) → h ≡ p.constant +ℤ (scaled F p).high +ℤ neg_ℤ (q.constant +ℤ (scaled F q).low)
    → is_point (pos 0) (record { low = l; high = h }) ≡ meets F p q
same_values F p q f t u l h e g = same (is_point (pos 0) (record { low = l; high = h })) (meets F p q) to from
  where
    same : (a b : Bool) → (a ≡ true → b ≡ true) → (b ≡ true → a ≡ true) → a ≡ b
    same true b r s = sym (r refl)
    same false true r s = s refl
    same false false r s = refl

    ends : (l h : ℤ) → is_point (pos 0) (record { low = l; high = h }) ≡ true → (l ≡ pos 0) × (h ≡ pos 0)
    ends l h k = elim (int_eq l (pos 0)) as (λ b. int_eq l (pos 0) ≡ b → cond b (int_eq h (pos 0)) false ≡ true → (l ≡ pos 0) × (h ≡ pos 0)) [
      | true ↦ λ i j. ((Decides-int_eq l (pos 0)).0 i, (Decides-int_eq h (pos 0)).0 j)
      | false ↦ λ i j. cc
    ] refl k

    of_ends : (l h : ℤ) → l ≡ pos 0 → h ≡ pos 0 → is_point (pos 0) (record { low = l; high = h }) ≡ true
    of_ends l h i j = ap (λ b. cond b (int_eq h (pos 0)) false) ((Decides-int_eq l (pos 0)).1 i) ∙ (Decides-int_eq h (pos 0)).1 j

    to : is_point (pos 0) (record { low = l; high = h }) ≡ true → meets F p q ≡ true
    to k = meets_to F p q (λ v w m n.
        let z = ends l h k in
        let a = in_scaled (numbers_of F p) p.factor v m in
        let b = in_scaled (numbers_of F q) q.factor w n in
        between_is (value_with p v) (value_with q w) (omega (arith, ints, e, g, z.0, z.1, a.least, a.most, b.least, b.most)) (omega (arith, ints, e, g, z.0, z.1, a.least, a.most, b.least, b.most)))

    from : meets F p q ≡ true → is_point (pos 0) (record { low = l; high = h }) ≡ true
    from k =
        let v = numbers_some F p f t in
        let w = numbers_some F q f u in
        let a = low_among (numbers_of F p) p.factor v.0 v.1 in
        let b = high_among (numbers_of F p) p.factor v.0 v.1 in
        let c = low_among (numbers_of F q) q.factor w.0 w.1 in
        let d = high_among (numbers_of F q) q.factor w.0 w.1 in
        let r = meets_from F p q k a.0 d.0 a.1 d.1 in
        let s = meets_from F p q k b.0 c.0 b.1 c.1 in
        of_ends l h (omega (arith, ints, e, a.2, d.2, r)) (omega (arith, ints, g, b.2, c.2, s))

pub zero_meets : (F : Family) (s t : Term) (p q : Part) → Full F → IsPartOf (length F) s p → IsPartOf (length F) t q → AreApart p q
    → is_point (pos 0) (with_variables F (difference s t) (length F) (point (difference_fixed s t))) ≡ meets F p q
unfolding with_variables span_add
zero_meets F s t p q f i j a =
    let n = length F in
    let d = apart_sum F (coef s) (coef t) n (one_none s t n p q i j a) in
    let x = part_sum F s p i in
    let y = part_sum F t q j in
    let k = i.constant ∙ same_part s in
    let m = j.constant ∙ same_part t in
    let z = weighted F (difference s t) n in
    same_values F p q f i.there j.there (difference_fixed s t +ℤ z.low) (difference_fixed s t +ℤ z.high) (omega (arith, ints, d.0, x.low, y.high, k, m)) (omega (arith, ints, d.1, x.high, y.low, k, m))

-- ---- truths

-- a truth that is refuted where b is true
pub record IsTold (r : Option Span) (b : Bool) : Type 0 where
  pub never : Bool
  pub is : r ≡ Some (flip (verdict b never))
  pub apart : b ≡ true → never ≡ false

told_refuted : (r : Option Span) (b : Bool) → IsTold r b → cond (is_possible r) false true ≡ b
told_refuted r b t = ap (λ o. cond (is_possible o) false true) t.is ∙ sure_refuted b t.never t.apart

least_truth : (b c m n : Bool) → span_min (flip (verdict b m)) (flip (verdict c n)) ≡ flip (verdict (b || c) (m && n))
unfolding span_min flip smaller
least_truth true true true true = refl
least_truth true true true false = refl
least_truth true true false true = refl
least_truth true true false false = refl
least_truth true false true true = refl
least_truth true false true false = refl
least_truth true false false true = refl
least_truth true false false false = refl
least_truth false true true true = refl
least_truth false true true false = refl
least_truth false true false true = refl
least_truth false true false false = refl
least_truth false false true true = refl
least_truth false false true false = refl
least_truth false false false true = refl
least_truth false false false false = refl

apart_both : (b c m n : Bool) → (b ≡ true → m ≡ false) → (c ≡ true → n ≡ false) → (b || c) ≡ true → (m && n) ≡ false
apart_both true c m n f g h = rw (f refl) refl
apart_both false c true n f g h = g h
apart_both false c false n f g h = refl

least_told : (r s : Option Span) (b c : Bool) → IsTold r b → IsTold s c → IsTold (lift span_min r s) (b || c)
least_told r s b c t u = record {
  never = t.never && u.never;
  is = ap (λ o. lift span_min o s) t.is ∙ ap (λ o. lift span_min (Some (flip (verdict b t.never))) o) u.is ∙ ap Some (least_truth b c t.never u.never);
  apart = apart_both b c t.never u.never t.apart u.apart;
}

-- the least of all of a list
abbrev AreTold : List (Option Span) → Bool → Type 0
AreTold rs b = IsTold (lift_all span_min (point (pos 1)) rs) b

true_told : (r : Span) → r ≡ point (pos 1) → IsTold (Some r) false
unfolding flip
true_told r e = record { never = true; is = ap Some e; apart = λ h. cc }

-- ---- all pairs

defined_told : (F : Family) (t : Term) → pure t ≡ true → IsTold (defined_range (record { coef = coef t; pure = pure t; rest = rest F t })) false
defined_told F t h = subst (λ o. IsTold (lift1 (λ (r : Span). point (pos 1)) o) false) (sym (pure_is F t h)) (true_told (point (pos 1)) refl)

differ_told : (F : Family) (s t : Term) (p q : Part) → Full F → IsPartOf (length F) s p → IsPartOf (length F) t q → AreApart p q
    → IsTold (differ_range F (record { coef = coef s; pure = pure s; rest = rest F s }) (record { coef = coef t; pure = pure t; rest = rest F t })) (meets F p q)
unfolding compare
differ_told F s t p q f i j a =
    let c = difference s t in
    let k = difference_fixed s t in
    let d = with_variables F c (length F) (point k) in
    subst (λ b. IsTold (differ_range F (record { coef = coef s; pure = pure s; rest = rest F s }) (record { coef = coef t; pure = pure t; rest = rest F t })) b) (zero_meets F s t p q f i j a) (record {
      never = never_zero F c (length F) true (point k);
      is = ap (lift1 flip) (normal_range F equal s t i.linear j.linear);
      apart = λ e. zero_apart F f c true (point k) d (omega (arith, ints)) refl e;
    })

first_told : (F : Family) (t : Term) (p : Part) (us : Terms) (qs : List Part) (rs : List (Option Span)) (b : Bool) → Full F → IsPartOf (length F) t p → ArePartsOf (length F) us qs
    → ((j : ℕ) → j < length qs → AreApart p (get_or qs j nothing)) → AreTold rs b
    → AreTold (map (differ_range F (record { coef = coef t; pure = pure t; rest = rest F t })) (linears F us) ++ rs) (meets_any F p qs || b)
first_told F t p Terms.no_terms [] rs b f i is a h = h
first_told F t p Terms.no_terms (q ∷ qs) rs b f i is a h = absurd is
first_told F t p (Terms.more_terms u us) [] rs b f i is a h = absurd is
first_told F t p (Terms.more_terms u us) (q ∷ qs) rs b f i is a h =
    let e : Linear = record { coef = coef t; pure = pure t; rest = rest F t } in
    let g = differ_told F t u p q f i is.0 (a 0 (omega arith)) in
    let r = first_told F t p us qs rs b f i is.1 (λ j k. a (suc j) (omega (arith, k))) h in
    subst (λ c. AreTold (map (differ_range F e) (linears F (Terms.more_terms u us)) ++ rs) c) (joined (meets F p q) (meets_any F p qs) b)
    (least_told (differ_range F e (record { coef = coef u; pure = pure u; rest = rest F u })) (lift_all span_min (point (pos 1)) (map (differ_range F e) (linears F us) ++ rs)) (meets F p q) (meets_any F p qs || b) g r)
  where
    joined : (a b c : Bool) → (a || (b || c)) ≡ ((a || b) || c)
    joined true b c = refl
    joined false b c = refl

all_told : (F : Family) (ts : Terms) (ps : List Part) → Full F → ArePartsOf (length F) ts ps → ((i j : ℕ) → i < length ps → j < length ps → i ≢ j → AreApart (get_or ps i nothing) (get_or ps j nothing))
    → AreTold (pairwise defined_range (differ_range F) (linears F ts)) (clashes ps F)
all_told F Terms.no_terms [] f is a = true_told (point (pos 1)) refl
all_told F Terms.no_terms (p ∷ ps) f is a = absurd is
all_told F (Terms.more_terms t ts) [] f is a = absurd is
all_told F (Terms.more_terms t ts) (p ∷ ps) f is a =
    let e : Linear = record { coef = coef t; pure = pure t; rest = rest F t } in
    let r = all_told F ts ps f is.1 (λ i j h k n. a (suc i) (suc j) (omega (arith, h)) (omega (arith, k)) (λ z. n (omega (arith, z)))) in
    let g = first_told F t p ts ps (pairwise defined_range (differ_range F) (linears F ts)) (clashes ps F) f is.0 is.1 (λ j k. a 0 (suc j) (omega arith) (omega (arith, k)) (λ z. omega (arith, z))) r in
    least_told (defined_range e) (lift_all span_min (point (pos 1)) (map (differ_range F e) (linears F ts) ++ pairwise defined_range (differ_range F) (linears F ts))) false (meets_any F p ps || clashes ps F) (defined_told F t is.0.linear) g

pub different_by_parts : DifferentByParts
different_by_parts ts ps F f is s = told_refuted (fact_range F (Fact.different ts)) (clashes ps F) (all_told F ts ps f is s.apart)
