-- The list with the opposite factors.
use Rattle.std.proofs.Common.{◌≡◌, ◌≢◌, ◌∙◌, ℕ, ◌+◌, Bool, true, false, cond, ◌||◌, refl, List, [], ◌∷◌, ℤ, pos, ◌+ℤ◌, neg_ℤ, ap, sym, subst, arith}
use Rattle.std.specs.Prelude.{nat_eq, unsigned_abs}
use Rattle.std.proofs.Math.Path.{fun_ext}
use Rattle.std.proofs.lemmas.Int.{ints}
use Rattle.opl_domain.specs.Family.{Family}
use Rattle.opl_expr.specs.Sound.{IsSmall}
use Rattle.opl_linear.specs.Linear.{factor_in, names, NamesOnce, AreAmong, AreFactors, is_above, opposite, bulk}
use Rattle.opl_linear.specs.Alternating.{either}

same_names : (ps : List (ℕ × ℤ)) (x : ℕ) → names (opposite ps) x ≡ names ps x
same_names [] x = refl
same_names (p ∷ ps) x = ap (λ b. nat_eq x p.0 || b) (same_names ps x)

pub opposite_once : (ps : List (ℕ × ℤ)) → NamesOnce ps → NamesOnce (opposite ps)
opposite_once [] o = tt
opposite_once (p ∷ ps) o = (same_names ps p.0 ∙ o.0, opposite_once ps o.1)

pub opposite_among : (n : ℕ) (ps : List (ℕ × ℤ)) → AreAmong n ps → AreAmong n (opposite ps)
opposite_among n [] a = tt
opposite_among n (p ∷ ps) a = (a.0, opposite_among n ps a.1)

abs_same : (v : ℤ) → unsigned_abs (neg_ℤ v) ≡ unsigned_abs v
abs_same v = omega (arith, ints)

neg_some : (v : ℤ) → v ≢ pos 0 → neg_ℤ v ≢ pos 0
neg_some v n e = n (omega (arith, ints, e))

pub opposite_factors : (ps : List (ℕ × ℤ)) → AreFactors ps → AreFactors (opposite ps)
opposite_factors [] a = tt
opposite_factors (p ∷ ps) a = (neg_some p.1 a.0, subst IsSmall (sym (abs_same p.1)) a.1, opposite_factors ps a.2)

pub opposite_bulk : (F : Family) (ps : List (ℕ × ℤ)) → bulk F (opposite ps) ≡ bulk F ps
opposite_bulk F [] = refl
opposite_bulk F (p ∷ ps) = rw (abs_same p.1, opposite_bulk F ps) refl

neg_cond : (b : Bool) (v r : ℤ) → cond b (neg_ℤ v) (pos 0) +ℤ neg_ℤ r ≡ neg_ℤ (cond b v (pos 0) +ℤ r)
neg_cond true v r = omega (arith, ints)
neg_cond false v r = omega (arith, ints)

opposite_factor : (ps : List (ℕ × ℤ)) (x : ℕ) → factor_in (opposite ps) x ≡ neg_ℤ (factor_in ps x)
opposite_factor [] x = refl
opposite_factor (p ∷ ps) x = ap (λ r. cond (nat_eq x p.0) (neg_ℤ p.1) (pos 0) +ℤ r) (opposite_factor ps x) ∙ neg_cond (nat_eq x p.0) p.1 (factor_in ps x)

pub opposite_is : (ps : List (ℕ × ℤ)) → factor_in (opposite ps) ≡ (λ x. neg_ℤ (factor_in ps x))
opposite_is ps = fun_ext (opposite_factor ps)

pub opposite_fits : (F : Family) (ps : List (ℕ × ℤ)) (k j : ℤ) → j ≡ neg_ℤ k → IsSmall (unsigned_abs k + bulk F ps) → IsSmall (unsigned_abs j + bulk F (opposite ps))
opposite_fits F ps k j e h = rw (e, abs_same k, opposite_bulk F ps) h

-- the two tests of being 0 are that of the parts and their opposites
pub zero_test : (ps qs : List (ℕ × ℤ)) (k j : ℤ) → qs ≡ opposite ps → j ≡ neg_ℤ k → either (is_above (factor_in ps) k) (is_above (factor_in qs) j) ≡ either (is_above (factor_in ps) k) (is_above (λ x. neg_ℤ (factor_in ps x)) (neg_ℤ k))
zero_test ps qs k j e f =
    ap (λ rs. either (is_above (factor_in ps) k) (is_above (factor_in rs) j)) e
    ∙ ap (λ m. either (is_above (factor_in ps) k) (is_above (factor_in (opposite ps)) m)) f
    ∙ ap (λ c. either (is_above (factor_in ps) k) (is_above c (neg_ℤ k))) (opposite_is ps)

-- the second of the two
pub opposite_above : (ps qs : List (ℕ × ℤ)) (k j : ℤ) (F : Family) → qs ≡ opposite ps → j ≡ neg_ℤ k → is_above (factor_in qs) j F ≡ is_above (λ x. neg_ℤ (factor_in ps x)) (neg_ℤ k) F
opposite_above ps qs k j F e f =
    ap (λ rs. is_above (factor_in rs) j F) e ∙ ap (λ m. is_above (factor_in (opposite ps)) m F) f ∙ ap (λ c. is_above c (neg_ℤ k) F) (opposite_is ps)

pub second_alone : (a b : Bool) → a ≡ false → b ≡ (a || b)
second_alone a b e = rw e refl
