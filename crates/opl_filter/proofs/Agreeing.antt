-- The range of a constraint depends on the sets alone of the variables that it mentions.
use Rattle.std.proofs.Common.{◌≡◌, ◌≢◌, ◌∙◌, ℕ, zero, suc, ◌<◌, ◌≤◌, ◌⊎◌, Bool, true, false, refl, List, [], ◌∷◌, length, ℤ, get_or, set, ap, sym, subst, inl, inr, arith, length-set}
use Rattle.std.proofs.lemmas.Bool.{cases_eq}
use Rattle.opl_domain.specs.Family.{Family, set_of, has, member, Full}
use Rattle.opl_domain.proofs.Sets.{set_of-here, set_of-there}
use Rattle.opl_expr.specs.Forms.{Fact}
use Rattle.opl_expr.specs.Range.{fact_range}
use Rattle.opl_filter.specs.Mentions.{mentions}
use Rattle.opl_filter.specs.Fresh.{DifferAt, AgreeOn}
use Rattle.opl_filter.proofs.Unmentioned.{fact_same}

-- the family F with the sets of G for its first n variables
abbrev mixed : ℕ → Family → Family → Family
mixed zero F G = F
mixed (suc n) F G = set (mixed n F G) n (set_of G n)

length-mixed : (n : ℕ) (F G : Family) → length (mixed n F G) ≡ length F
length-mixed zero F G = refl
length-mixed (suc n) F G = length-set (mixed n F G) n (set_of G n) ∙ length-mixed n F G

-- each set is that of F or that of G
data From (F G : Family) (n y : ℕ) (vs : List ℤ) : Type 0 where
  second : y < n → vs ≡ set_of G y → From F G n y vs
  first : n ≤ y → vs ≡ set_of F y → From F G n y vs

from_mixed : (n : ℕ) (F G : Family) (y : ℕ) → n ≤ length F → From F G n y (set_of (mixed n F G) y)
from_mixed zero F G y h = first (omega arith) refl
from_mixed (suc n) F G y h = elim (cases_eq y n) [
  | inl e ↦ second (omega (arith, e)) (subst (λ z. set_of (set (mixed n F G) n (set_of G n)) z ≡ set_of G z) (sym e) (set_of-here (mixed n F G) n (set_of G n) (omega (arith, length-mixed n F G))))
  | inr k ↦ elim (from_mixed n F G y (omega arith)) [
    | second l i ↦ second (omega arith) (set_of-there (mixed n F G) n y (set_of G n) k ∙ i)
    | first l i ↦ first (omega (arith, k)) (set_of-there (mixed n F G) n y (set_of G n) k ∙ i)
  ]
]

full_mixed : (n : ℕ) (F G : Family) → n ≤ length F → length F ≡ length G → Full F → Full G → Full (mixed n F G)
full_mixed n F G h s f g y k = elim (from_mixed n F G y h) [
  | second l i ↦ let r = g y (omega (arith, length-mixed n F G, s)) in (r.0, subst (λ vs. member r.0 vs ≡ true) (sym i) r.1)
  | first l i ↦ let r = f y (omega (arith, length-mixed n F G)) in (r.0, subst (λ vs. member r.0 vs ≡ true) (sym i) r.1)
]

set_same : (F : Family) (n : ℕ) (vs : List ℤ) → n < length F → vs ≡ set_of F n → set F n vs ≡ F
unfolding set_of
set_same [] n vs h e = refl
set_same (ws ∷ F) zero vs h e = ap (λ us. us ∷ F) e
set_same (ws ∷ F) (suc n) vs h e = ap (λ H. ws ∷ H) (set_same F n vs (omega arith) e)

-- one more set, of a variable that is not mentioned, or that has the same set
mixed_same : (c : Fact) (F G : Family) (n : ℕ) → n < length F → AgreeOn (mentions c) F G → fact_range (mixed n F G) c ≡ fact_range (mixed (suc n) F G) c
mixed_same c F G n h a = elim (mentions c n) as (λ b. mentions c n ≡ b → fact_range (mixed n F G) c ≡ fact_range (mixed (suc n) F G) c) [
  | true ↦ λ e.
      let here : set_of (mixed n F G) n ≡ set_of F n = elim (from_mixed n F G n (omega arith)) [ second l i ↦ absurd (omega arith) | first l i ↦ i ] in
      ap (λ H. fact_range H c) (sym (set_same (mixed n F G) n (set_of G n) (omega (arith, length-mixed n F G)) (sym (a.sets n e) ∙ sym here)))
  | false ↦ λ e. fact_same n (mixed n F G) (mixed (suc n) F G) (record {
    same = length-mixed n F G ∙ sym (length-mixed (suc n) F G);
    first = full_mixed n F G (omega arith) a.same a.first a.second;
    second = full_mixed (suc n) F G (omega arith) a.same a.first a.second;
    others = λ y k. sym (set_of-there (mixed n F G) n y (set_of G n) k);
  }) c e
] refl

mixed_all : (c : Fact) (F G : Family) (n : ℕ) → n ≤ length F → AgreeOn (mentions c) F G → fact_range F c ≡ fact_range (mixed n F G) c
mixed_all c F G zero h a = refl
mixed_all c F G (suc n) h a = mixed_all c F G n (omega arith) a ∙ mixed_same c F G n (omega arith) a

same_sets : (F G : Family) → length F ≡ length G → ((y : ℕ) → y < length F → set_of F y ≡ set_of G y) → F ≡ G
unfolding set_of
same_sets [] [] s h = refl
same_sets [] (vs ∷ G) s h = absurd (omega (arith, s))
same_sets (us ∷ F) [] s h = absurd (omega (arith, s))
same_sets (us ∷ F) (vs ∷ G) s h =
    let rest : F ≡ G = same_sets F G (omega (arith, s)) (λ y k. h (suc y) (omega (arith, k))) in
    ap (λ ws. ws ∷ F) (h 0 (omega arith)) ∙ ap (λ H. vs ∷ H) rest

mixed_end : (F G : Family) → length F ≡ length G → mixed (length F) F G ≡ G
mixed_end F G s = same_sets (mixed (length F) F G) G (length-mixed (length F) F G ∙ s) (λ y k.
    elim (from_mixed (length F) F G y (omega arith)) [ second l i ↦ i | first l i ↦ absurd (omega (arith, k, length-mixed (length F) F G)) ])

pub agreeing_same : (c : Fact) (F G : Family) → AgreeOn (mentions c) F G → fact_range F c ≡ fact_range G c
agreeing_same c F G a = mixed_all c F G (length F) (omega arith) a ∙ ap (λ H. fact_range H c) (mixed_end F G a.same)
