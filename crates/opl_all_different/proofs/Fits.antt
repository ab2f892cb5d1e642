-- All values of the parts, and their differences, fit wherever the constraint is sound.
use Rattle.std.proofs.Common.{◌≡◌, ◌≢◌, ◌∙◌, ℕ, zero, suc, ◌+◌, ◌*◌, ◌<◌, ◌≤◌, true, refl, List, [], ◌∷◌, length, ℤ, ◌+ℤ◌, ◌*ℤ◌, get_or, ap, sym, subst, arith, inl, inr}
use Rattle.std.specs.Prelude.{unsigned_abs}
use Rattle.std.proofs.lemmas.Int.{ints, unsigned_abs-mul}
use Rattle.std.proofs.lemmas.Bool.{cases_eq}
use Rattle.std.proofs.Math.Nat.{mul-le-mul_left}
use Rattle.opl_domain.specs.Span.{magnitude, point}
use Rattle.opl_domain.specs.Family.{member, Family, Below}
use Rattle.opl_expr.specs.declared.model.Core.{Core}
use Rattle.opl_expr.specs.Forms.{Term, Terms}
use Rattle.opl_expr.specs.Range.{coef}
use Rattle.opl_expr.specs.Solutions.{declared}
use Rattle.opl_expr.specs.Sound.{IsSmall, var_magnitude, term_magnitude, greatest_magnitude, AreComparable}
use Rattle.opl_expr.proofs.Narrower.{fixed_part, pure_is}
use Rattle.opl_range.specs.Magnitudes.{weight}
use Rattle.opl_range.proofs.Weights.{has_declared, ranges_are_small}
use Rattle.opl_trace.proofs.Families.{below_self}
use Rattle.opl_linear.proofs.Normal.{same_part}
use Rattle.opl_linear_filter.proofs.Weights.{below_length}
use Rattle.opl_all_different.specs.declared.part.Part.{Part}
use Rattle.opl_all_different.specs.Parts.{nothing, part_at, numbers_of, weight_of, AreFitting, IsPartOf, ArePartsOf}
use Rattle.opl_all_different.proofs.Meetings.{zero_or_not, numbers_set}
use Rattle.opl_all_different.proofs.Sums.{factor_here}

-- ---- over declared sets

multiple_small : (core : Core) (F : Family) (p : Part) (w : ℤ) → Below F (declared core) → member w (numbers_of F p) ≡ true → unsigned_abs p.factor * unsigned_abs w ≤ unsigned_abs p.factor * var_magnitude core.sets p.variable
multiple_small core F p w b m = elim (zero_or_not p.factor) [
  | inl e ↦ subst (λ k. unsigned_abs k * unsigned_abs w ≤ unsigned_abs k * var_magnitude core.sets p.variable) (sym e) (omega arith)
  | inr n ↦ mul-le-mul_left (unsigned_abs p.factor) (has_declared core p.variable w (b.sub p.variable w (subst (λ vs. member w vs ≡ true) (numbers_set F p n) m)))
]

pub family_fits : (core : Core) (F : Family) (ps : List Part) → Below F (declared core) → ((i : ℕ) → i < length ps → IsSmall (weight_of core.sets (part_at ps i)))
    → ((i j : ℕ) → i < length ps → j < length ps → j ≢ i → IsSmall (unsigned_abs (part_at ps j).constant + weight_of core.sets (part_at ps i))) → AreFitting F ps
family_fits core F ps b own pairs = record {
  own = λ i w h m. omega (arith, own i h, multiple_small core F (part_at ps i) w b m);
  pairs = λ i j w h k n m. omega (arith, pairs i j h k n, multiple_small core F (part_at ps i) w b m);
}

-- ---- by the magnitude of the expressions

weight_at_least : (sets : List (ℤ × ℤ)) (c : ℕ → ℤ) (x n : ℕ) → x < n → unsigned_abs (c x) * var_magnitude sets x ≤ weight sets c n
weight_at_least sets c x zero h = absurd (omega (arith, h))
weight_at_least sets c x (suc n) h = elim (cases_eq x n) [
  | inl e ↦ subst (λ y. unsigned_abs (c y) * var_magnitude sets y ≤ weight sets c (suc n)) (sym e) (omega arith)
  | inr m ↦ omega (arith, weight_at_least sets c x n (omega (arith, h, m)))
]

whole_weight : (core : Core) (t : Term) (p : Part) → IsPartOf (length core.sets) t p → weight core.sets (coef t) (length core.sets) + unsigned_abs p.constant ≤ term_magnitude core.sets t
whole_weight core t p i =
    let D = declared core in
    let l = below_length core D (below_self D) in
    let u = subst (λ m. weight core.sets (coef t) m + magnitude (point (fixed_part t)) ≤ term_magnitude core.sets t) l (ranges_are_small.rests core D t (point (fixed_part t)) (below_self D) (pure_is D t i.linear)) in
    let k : unsigned_abs p.constant ≡ unsigned_abs (fixed_part t) = ap unsigned_abs (i.constant ∙ same_part t) in
    omega (arith, u, k)

part_weight : (core : Core) (t : Term) (p : Part) → IsPartOf (length core.sets) t p → weight_of core.sets p ≤ term_magnitude core.sets t
part_weight core t p i = elim (zero_or_not p.factor) [
  | inl e ↦
      let z : unsigned_abs p.factor * var_magnitude core.sets p.variable ≡ 0 = subst (λ k. unsigned_abs k * var_magnitude core.sets p.variable ≡ 0) (sym e) (omega arith) in
      omega (arith, whole_weight core t p i, z)
  | inr n ↦
      let w = weight_at_least core.sets (coef t) p.variable (length core.sets) (i.there n) in
      let k : unsigned_abs (coef t p.variable) * var_magnitude core.sets p.variable ≡ unsigned_abs p.factor * var_magnitude core.sets p.variable = ap (λ z. unsigned_abs z * var_magnitude core.sets p.variable) (i.factors p.variable ∙ factor_here p) in
      omega (arith, whole_weight core t p i, w, k)
]

greatest_at : (core : Core) (ts : Terms) (ps : List Part) (j : ℕ) → ArePartsOf (length core.sets) ts ps → j < length ps → weight_of core.sets (get_or ps j nothing) ≤ greatest_magnitude core.sets ts
greatest_at core Terms.no_terms [] j is h = absurd (omega (arith, h))
greatest_at core Terms.no_terms (p ∷ ps) j is h = absurd is
greatest_at core (Terms.more_terms t ts) [] j is h = absurd is
greatest_at core (Terms.more_terms t ts) (p ∷ ps) zero is h = omega (arith, part_weight core t p is.0)
greatest_at core (Terms.more_terms t ts) (p ∷ ps) (suc j) is h = omega (arith, greatest_at core ts ps j is.1 (omega (arith, h)))

pub own_fits : (core : Core) (ts : Terms) (ps : List Part) → ArePartsOf (length core.sets) ts ps → AreComparable core.sets ts → (i : ℕ) → i < length ps → IsSmall (weight_of core.sets (get_or ps i nothing))
own_fits core Terms.no_terms [] is c i h = absurd (omega (arith, h))
own_fits core Terms.no_terms (p ∷ ps) is c i h = absurd is
own_fits core (Terms.more_terms t ts) [] is c i h = absurd is
own_fits core (Terms.more_terms t ts) (p ∷ ps) is c zero h = omega (arith, c.0, part_weight core t p is.0)
own_fits core (Terms.more_terms t ts) (p ∷ ps) is c (suc i) h = own_fits core ts ps is.1 c.1 i (omega (arith, h))

pub pairs_fit : (core : Core) (ts : Terms) (ps : List Part) → ArePartsOf (length core.sets) ts ps → AreComparable core.sets ts → (i j : ℕ) → i < length ps → j < length ps → j ≢ i
    → IsSmall (unsigned_abs (get_or ps j nothing).constant + weight_of core.sets (get_or ps i nothing))
pairs_fit core Terms.no_terms [] is c i j h k n = absurd (omega (arith, h))
pairs_fit core Terms.no_terms (p ∷ ps) is c i j h k n = absurd is
pairs_fit core (Terms.more_terms t ts) [] is c i j h k n = absurd is
pairs_fit core (Terms.more_terms t ts) (p ∷ ps) is c zero zero h k n = absurd (n refl)
pairs_fit core (Terms.more_terms t ts) (p ∷ ps) is c zero (suc j) h k n = omega (arith, c.0, part_weight core t p is.0, greatest_at core ts ps j is.1 (omega (arith, k)))
pairs_fit core (Terms.more_terms t ts) (p ∷ ps) is c (suc i) zero h k n = omega (arith, c.0, part_weight core t p is.0, greatest_at core ts ps i is.1 (omega (arith, h)))
pairs_fit core (Terms.more_terms t ts) (p ∷ ps) is c (suc i) (suc j) h k n = pairs_fit core ts ps is.1 c.1 i j (omega (arith, h)) (omega (arith, k)) (λ e. n (omega (arith, e)))

-- ---- one value, and a constant

pub value_small : (p : Part) (w : ℤ) (m : ℕ) → IsSmall (m + (unsigned_abs p.constant + unsigned_abs p.factor * unsigned_abs w)) → (v : ℤ) → v ≡ p.constant +ℤ (p.factor *ℤ w) → IsSmall (m + unsigned_abs v)
value_small p w m s v e =
    let t = unsigned_abs-mul p.factor w in
    let u : unsigned_abs (p.constant +ℤ (p.factor *ℤ w)) ≤ unsigned_abs p.constant + unsigned_abs (p.factor *ℤ w) = omega (arith, ints) in
    omega (arith, s, ap unsigned_abs e, t, u)
