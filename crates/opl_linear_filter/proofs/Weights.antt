-- All sums of a form fit wherever its comparison is sound.
use Rattle.std.proofs.Common.{◌≡◌, ◌≢◌, ◌∙◌, ℕ, zero, suc, ◌+◌, ◌*◌, ◌<◌, ◌≤◌, true, false, cond, refl, List, [], ◌∷◌, length, ℤ, pos, ◌+ℤ◌, ◌*ℤ◌, neg_ℤ, ap, sym, subst, arith, inl, inr}
use Rattle.std.specs.Prelude.{unsigned_abs}
use Rattle.std.proofs.lemmas.Int.{ints}
use Rattle.std.proofs.lemmas.Bool.{cases_eq, cases_lt}
use Rattle.std.proofs.Math.Nat.{mul-le-mul_left}
use Rattle.opl_domain.specs.Span.{magnitude, point, values}
use Rattle.opl_domain.specs.Family.{Family, Below}
use Rattle.opl_expr.specs.declared.model.Core.{Core}
use Rattle.opl_expr.specs.declared.forms.Expr.{Expr}
use Rattle.opl_expr.specs.Forms.{Term, Terms}
use Rattle.opl_expr.specs.Range.{coef, coefs, pure}
use Rattle.opl_expr.specs.Solutions.{declared}
use Rattle.opl_expr.specs.Sound.{IsSmall, var_magnitude, term_magnitude, IsSoundTerm, AreSoundTerms}
use Rattle.opl_expr.proofs.Narrower.{fixed_part, pure_is}
use Rattle.opl_range.specs.Between.{term_of, between}
use Rattle.opl_range.proofs.Tables.{length_map}
use Rattle.opl_range.specs.Magnitudes.{weight}
use Rattle.opl_range.proofs.Weights.{HullsSmall, hulls_small, weight_minus, ranges_are_small}
use Rattle.opl_trace.proofs.Families.{below_self}
use Rattle.opl_linear.specs.Linear.{factor_in, names, NamesOnce, AreAmong, bulk}
use Rattle.opl_linear.specs.Laws.{factors_of, constant_of}
use Rattle.opl_linear.proofs.Sums.{unnamed, factor_here, factor_there}
use Rattle.opl_linear.proofs.Normal.{same_difference}
use Rattle.opl_linear_filter.specs.Parts.{weight_of}
use Rattle.opl_linear_filter.proofs.Building.{not_same}

weight_same : (sets : List (ℤ × ℤ)) (c d : ℕ → ℤ) (n : ℕ) → ((y : ℕ) → y < n → c y ≡ d y) → weight sets c n ≡ weight sets d n
weight_same sets c d zero h = refl
weight_same sets c d (suc n) h = rw (weight_same sets c d n (λ y k. h y (omega (arith, k))), h n (omega arith)) refl

weight_other : (sets : List (ℤ × ℤ)) (c d : ℕ → ℤ) (x n : ℕ) → x < n → ((y : ℕ) → y ≢ x → c y ≡ d y) → weight sets d n + unsigned_abs (c x) * var_magnitude sets x ≡ weight sets c n + unsigned_abs (d x) * var_magnitude sets x
weight_other sets c d x zero k h = absurd (omega (arith, k))
weight_other sets c d x (suc n) k h = elim (cases_eq x n) [
  | inl e ↦ let s = weight_same sets c d n (λ y b. h y (λ i. omega (arith, b, i, e))) in rw e (omega (arith, s))
  | inr m ↦
      let s = weight_other sets c d x n (omega (arith, k, m)) h in
      let t = ap (λ z. unsigned_abs z * var_magnitude sets n) (h n (λ i. m (sym i))) in
      omega (arith, s, t)
]

weight_none : (sets : List (ℤ × ℤ)) (n : ℕ) → weight sets (factor_in []) n ≡ 0
weight_none sets zero = refl
weight_none sets (suc n) = omega (arith, weight_none sets n)

weight_listed : (sets : List (ℤ × ℤ)) (ps : List (ℕ × ℤ)) (n : ℕ) → NamesOnce ps → AreAmong n ps → weight_of sets ps ≡ weight sets (factor_in ps) n
weight_listed sets [] n o a = sym (weight_none sets n)
weight_listed sets (p ∷ ps) n o a =
    let i = weight_listed sets ps n o.1 a.1 in
    let s = weight_other sets (factor_in ps) (factor_in (p ∷ ps)) p.0 n a.0 (λ y m. sym (factor_there p ps y m)) in
    let u = ap (λ k. unsigned_abs k * var_magnitude sets p.0) (unnamed ps p.0 o.0) in
    let t = ap (λ k. unsigned_abs k * var_magnitude sets p.0) (factor_here p ps o.0) in
    omega (arith, i, s, u, t)

bulk_weight : (sets : List (ℤ × ℤ)) (F : Family) (ps : List (ℕ × ℤ)) → HullsSmall sets F → bulk F ps ≤ weight_of sets ps
bulk_weight sets F [] h = omega arith
bulk_weight sets F (p ∷ ps) h = omega (arith, bulk_weight sets F ps h, mul-le-mul_left (unsigned_abs p.1) (h p.0))

-- over all families of declared sets
pub family_fits : (core : Core) (F : Family) (ps : List (ℕ × ℤ)) (k : ℤ) → Below F (declared core) → IsSmall (unsigned_abs k + weight_of core.sets ps) → IsSmall (unsigned_abs k + bulk F ps)
family_fits core F ps k b s = omega (arith, s, bulk_weight core.sets F ps (hulls_small core F b))

abs_less : (k l : ℤ) → unsigned_abs (k +ℤ neg_ℤ l) ≤ unsigned_abs k + unsigned_abs l
abs_less k l = omega (arith, ints)

declared_length : (core : Core) → length (declared core) ≡ length core.sets
unfolding declared
declared_length core = length_map (λ p. values (record { low = p.0; high = p.1 })) core.sets

-- how many variables a family has that lies below the declared sets
pub below_length : (core : Core) (F : Family) → Below F (declared core) → length F ≡ length core.sets
below_length core F b = b.same ∙ declared_length core

pub form_fits : (core : Core) (a b : Term) (ps : List (ℕ × ℤ)) (k : ℤ) → IsSmall (term_magnitude core.sets a + term_magnitude core.sets b) → pure a ≡ true → pure b ≡ true
    → ((x : ℕ) → factor_in ps x ≡ factors_of a b x) → NamesOnce ps → AreAmong (length core.sets) ps → k ≡ constant_of a b → IsSmall (unsigned_abs k + weight_of core.sets ps)
form_fits core a b ps k s p q e o i j =
    let D = declared core in
    let n = length core.sets in
    let l = declared_length core in
    let u = subst (λ m. weight core.sets (coef a) m + magnitude (point (fixed_part a)) ≤ term_magnitude core.sets a) l (ranges_are_small.rests core D a (point (fixed_part a)) (below_self D) (pure_is D a p)) in
    let v = subst (λ m. weight core.sets (coef b) m + magnitude (point (fixed_part b)) ≤ term_magnitude core.sets b) l (ranges_are_small.rests core D b (point (fixed_part b)) (below_self D) (pure_is D b q)) in
    let y = weight_listed core.sets ps n o i in
    let z = weight_same core.sets (factor_in ps) (factors_of a b) n (λ x h. e x) in
    let t = weight_minus core.sets (coef a) (coef b) n in
    let f : k ≡ fixed_part a +ℤ neg_ℤ (fixed_part b) = j ∙ same_difference a b in
    omega (arith, ints, u, v, y, z, t, s, ap unsigned_abs f, abs_less (fixed_part a) (fixed_part b))

-- ---- no variable but those of the core has a coefficient

times_none : (k : ℤ) → k *ℤ pos 0 ≡ pos 0
times_none k = grind (arith, ints)

mutual
  pub coef_there : (sets : List (ℤ × ℤ)) (t : Term) (x : ℕ) → IsSoundTerm sets t → length sets ≤ x → coef t x ≡ pos 0
  coef_there sets (Term.const k) x s h = refl
  coef_there sets (Term.var y) x s h = ap (λ b. cond b (pos 1) (pos 0)) (not_same x y (λ e. omega (arith, s.1, h, e)))
  coef_there sets (Term.sum ts) x s h = coefs_there sets ts x s.1 h
  coef_there sets (Term.neg t) x s h = ap neg_ℤ (coef_there sets t x s.1 h)
  coef_there sets (Term.scale k t) x s h = ap (λ v. k *ℤ v) (coef_there sets t x s.2 h) ∙ times_none k
  coef_there sets (Term.mul a b) x s h = refl
  coef_there sets (Term.div a b) x s h = refl
  coef_there sets (Term.rem a b) x s h = refl
  coef_there sets (Term.abs a) x s h = refl
  coef_there sets (Term.least ts) x s h = refl
  coef_there sets (Term.greatest ts) x s h = refl
  coef_there sets (Term.at table ts) x s h = refl
  coef_there sets (Term.truth c) x s h = refl
  coef_there sets (Term.asked ask y) x s h = refl

  coefs_there : (sets : List (ℤ × ℤ)) (ts : Terms) (x : ℕ) → AreSoundTerms sets ts → length sets ≤ x → coefs ts x ≡ pos 0
  coefs_there sets Terms.no_terms x s h = refl
  coefs_there sets (Terms.more_terms t ts) x s h = let a = coef_there sets t x s.0 h in let b = coefs_there sets ts x s.1 h in omega (arith, ints, a, b)

among_only : (n : ℕ) (ps : List (ℕ × ℤ)) (x : ℕ) → AreAmong n ps → n ≤ x → names ps x ≡ false
among_only n [] x a h = refl
among_only n (p ∷ ps) x a h = rw (not_same x p.0 (λ e. omega (arith, a.0, h, e)), among_only n ps x a.1 h) refl

pub all_factors : (core : Core) (a b : Term) (ps : List (ℕ × ℤ)) → IsSoundTerm core.sets a → IsSoundTerm core.sets b → AreAmong (length core.sets) ps → ((x : ℕ) → x < length core.sets → factor_in ps x ≡ factors_of a b x)
    → (x : ℕ) → factor_in ps x ≡ factors_of a b x
all_factors core a b ps s t m h x = elim (cases_lt x (length core.sets)) [
  | inl l ↦ h x l
  | inr l ↦
      let u = unnamed ps x (among_only (length core.sets) ps x m l) in
      let v = coef_there core.sets a x s l in
      let w = coef_there core.sets b x t l in
      omega (arith, ints, u, v, w)
]

pub between_is : (core : Core) (a b : Expr) (x : ℕ) → between core a b x ≡ factors_of (term_of core a) (term_of core b) x
unfolding between
between_is core a b x = refl
