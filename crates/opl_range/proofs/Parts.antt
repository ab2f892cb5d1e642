-- What a sound expression says of its parts, as the code reads them, and the steps of loops over parts.
use Rattle.std.proofs.Common.{◌≡◌, ℕ, zero, suc, ◌+◌, ◌-◌, ◌*◌, ◌≤◌, ◌<◌, max, Bool, true, false, cond, ◌&&◌, refl, List, [], ◌∷◌, map, length, get_or, drop, ℤ, pos, ◌+ℤ◌, ◌*ℤ◌, ap, sym, ◌∙◌, subst, arith}
use Rattle.std.specs.Prelude.{Some, None, unsigned_abs, int_le, slice_index_or}
use Rattle.std.proofs.Math.Nat.{mul-le-mul_left}
use Rattle.opl_expr.specs.declared.forms.Expr.{Expr}
use Rattle.opl_expr.specs.declared.forms.Expr.TheVariants as E
use Rattle.opl_expr.specs.declared.tables.Table.{Table}
use Rattle.opl_expr.specs.declared.tables.Resource.{Resource}
use Rattle.opl_expr.specs.Forms.{Term, terms_of, product_by, product, term, constant_value}
use Rattle.opl_expr.specs.Range.{coef, coefs, pure, all_pure}
use Rattle.opl_expr.specs.Sound.{IsSmall, set_magnitude, term_magnitude, sum_magnitude, IsSoundTerm}
use Rattle.opl_expr.proofs.Bounds.{sound_small}
use Rattle.opl_expr.proofs.Plain.{term_Sum, term_Neg, term_Mul, term_Div, term_Rem, term_Abs, term_Min, term_Max}
use Rattle.opl_expr.proofs.Parts.{drop_at, one_less, sum_loop, SoundFactors, sound_product}
use Rattle.opl_range.specs.Magnitudes.{weight}
use Rattle.opl_range.proofs.Weights.{coef_weight, coefs_weight}

-- ---- soundness of parts

module _ (tables : List Table) (resources : List Resource) (sets : List (ℤ × ℤ)) where
  sound_as : (e : Expr) (t : Term) → term tables resources e ≡ t → IsSoundTerm sets (term tables resources e) → IsSoundTerm sets t
  sound_as e t i s = subst (IsSoundTerm sets) i s

  sound_same : (a b : Expr) → b ≡ a → IsSoundTerm sets (term tables resources a) → IsSoundTerm sets (term tables resources b)
  sound_same a b i s = subst (λ z. IsSoundTerm sets (term tables resources z)) (sym i) s

  pub sum_parts : (e : Expr) (es ps : List Expr) → e ≡ E.Sum es → ps ≡ es → IsSoundTerm sets (term tables resources e) → IsSoundTerm sets (Term.sum (terms_of (map (term tables resources) ps)))
  sum_parts e es ps i j s = subst (λ z. IsSoundTerm sets (Term.sum (terms_of (map (term tables resources) z)))) (sym j) (sound_as e _ (ap (term tables resources) i ∙ term_Sum tables resources es) s)

  pub least_parts : (e : Expr) (es ps : List Expr) → e ≡ E.Min es → ps ≡ es → IsSoundTerm sets (term tables resources e) → IsSoundTerm sets (Term.least (terms_of (map (term tables resources) ps)))
  least_parts e es ps i j s = subst (λ z. IsSoundTerm sets (Term.least (terms_of (map (term tables resources) z)))) (sym j) (sound_as e _ (ap (term tables resources) i ∙ term_Min tables resources es) s)

  pub greatest_parts : (e : Expr) (es ps : List Expr) → e ≡ E.Max es → ps ≡ es → IsSoundTerm sets (term tables resources e) → IsSoundTerm sets (Term.greatest (terms_of (map (term tables resources) ps)))
  greatest_parts e es ps i j s = subst (λ z. IsSoundTerm sets (Term.greatest (terms_of (map (term tables resources) z)))) (sym j) (sound_as e _ (ap (term tables resources) i ∙ term_Max tables resources es) s)

  pub neg_part : (e a b : Expr) → e ≡ E.Neg a → b ≡ a → IsSoundTerm sets (term tables resources e) → IsSoundTerm sets (term tables resources b)
  neg_part e a b i j s = sound_same a b j (sound_as e (Term.neg (term tables resources a)) (ap (term tables resources) i ∙ term_Neg tables resources a) s).1

  pub abs_part : (e a b : Expr) → e ≡ E.Abs a → b ≡ a → IsSoundTerm sets (term tables resources e) → IsSoundTerm sets (term tables resources b)
  abs_part e a b i j s = sound_same a b j (sound_as e (Term.abs (term tables resources a)) (ap (term tables resources) i ∙ term_Abs tables resources a) s)

  pub div_first : (e a b p : Expr) → e ≡ E.Div a b → p ≡ a → IsSoundTerm sets (term tables resources e) → IsSoundTerm sets (term tables resources p)
  div_first e a b p i j s = sound_same a p j (sound_as e (Term.div (term tables resources a) (term tables resources b)) (ap (term tables resources) i ∙ term_Div tables resources a b) s).0

  pub div_second : (e a b p : Expr) → e ≡ E.Div a b → p ≡ b → IsSoundTerm sets (term tables resources e) → IsSoundTerm sets (term tables resources p)
  div_second e a b p i j s = sound_same b p j (sound_as e (Term.div (term tables resources a) (term tables resources b)) (ap (term tables resources) i ∙ term_Div tables resources a b) s).1

  pub rem_first : (e a b p : Expr) → e ≡ E.Rem a b → p ≡ a → IsSoundTerm sets (term tables resources e) → IsSoundTerm sets (term tables resources p)
  rem_first e a b p i j s = sound_same a p j (sound_as e (Term.rem (term tables resources a) (term tables resources b)) (ap (term tables resources) i ∙ term_Rem tables resources a b) s).0

  pub rem_second : (e a b p : Expr) → e ≡ E.Rem a b → p ≡ b → IsSoundTerm sets (term tables resources e) → IsSoundTerm sets (term tables resources p)
  rem_second e a b p i j s = sound_same b p j (sound_as e (Term.rem (term tables resources a) (term tables resources b)) (ap (term tables resources) i ∙ term_Rem tables resources a b) s).1

  factors : (e a b : Expr) → e ≡ E.Mul a b → IsSoundTerm sets (term tables resources e) → SoundFactors sets (term tables resources a) (term tables resources b)
  factors e a b i s = sound_product sets (term tables resources a) (term tables resources b) (sound_as e _ (ap (term tables resources) i ∙ term_Mul tables resources a b) s)

  pub mul_first : (e a b p : Expr) → e ≡ E.Mul a b → p ≡ a → IsSoundTerm sets (term tables resources e) → IsSoundTerm sets (term tables resources p)
  mul_first e a b p i j s = sound_same a p j (factors e a b i s).first

  pub mul_second : (e a b p : Expr) → e ≡ E.Mul a b → p ≡ b → IsSoundTerm sets (term tables resources e) → IsSoundTerm sets (term tables resources p)
  mul_second e a b p i j s = sound_same b p j (factors e a b i s).second

  pub factors_small : (e a b p q : Expr) → e ≡ E.Mul a b → p ≡ a → q ≡ b → IsSoundTerm sets (term tables resources e) → IsSmall (term_magnitude sets (term tables resources p) * term_magnitude sets (term tables resources q))
  factors_small e a b p q i j k s =
      subst (λ z. IsSmall (term_magnitude sets (term tables resources z) * term_magnitude sets (term tables resources q))) (sym j)
      (subst (λ z. IsSmall (term_magnitude sets (term tables resources a) * term_magnitude sets (term tables resources z))) (sym k) (factors e a b i s).small)

-- ---- coefficients are small

set_some : (sets : List (ℤ × ℤ)) (p : ℤ × ℤ) → 1 ≤ set_magnitude sets p
set_some sets p = elim (int_le p.0 p.1) as (λ b. 1 ≤ cond b (max 1 (max (unsigned_abs p.0) (unsigned_abs p.1))) 1) [ true ↦ omega arith | false ↦ omega arith ]

pub weight_at : (sets : List (ℤ × ℤ)) (c : ℕ → ℤ) (x m : ℕ) → weight sets c (suc x) ≤ m → unsigned_abs (c x) ≤ m
weight_at sets c x m h = omega (arith, h, mul-le-mul_left (unsigned_abs (c x)) (set_some sets (slice_index_or sets x (pos 0, pos 0))))

pub coef_small : (sets : List (ℤ × ℤ)) (t : Term) (x : ℕ) → unsigned_abs (coef t x) ≤ term_magnitude sets t
coef_small sets t x = weight_at sets (coef t) x (term_magnitude sets t) (coef_weight sets t (suc x))

coefs_small : (sets : List (ℤ × ℤ)) (f : Expr → Term) (es : List Expr) (x : ℕ) → unsigned_abs (coefs (terms_of (map f es)) x) ≤ sum_magnitude sets (terms_of (map f es))
coefs_small sets f es x = weight_at sets (coefs (terms_of (map f es))) x _ (coefs_weight sets (terms_of (map f es)) (suc x))

pub negated_small : (sets : List (ℤ × ℤ)) (t : Term) (x : ℕ) (r : ℤ) → IsSoundTerm sets t → r ≡ coef t x → IsSmall (unsigned_abs r)
negated_small sets t x r s e = omega (arith, ap unsigned_abs e, coef_small sets t x, sound_small sets t s)

constant_magnitude : (sets : List (ℤ × ℤ)) (t : Term) (k : ℤ) → Some k ≡ constant_value t → term_magnitude sets t ≡ unsigned_abs k
constant_magnitude sets (Term.const j) k e = let s : k ≡ j = cc in ap unsigned_abs (sym s)
constant_magnitude sets (Term.var x) k e = cc
constant_magnitude sets (Term.sum ts) k e = cc
constant_magnitude sets (Term.neg t) k e = cc
constant_magnitude sets (Term.scale j t) k e = cc
constant_magnitude sets (Term.mul s t) k e = cc
constant_magnitude sets (Term.div s t) k e = cc
constant_magnitude sets (Term.rem s t) k e = cc
constant_magnitude sets (Term.abs t) k e = cc
constant_magnitude sets (Term.least ts) k e = cc
constant_magnitude sets (Term.greatest ts) k e = cc
constant_magnitude sets (Term.at table ts) k e = cc
constant_magnitude sets (Term.truth c) k e = cc
constant_magnitude sets (Term.asked ask x) k e = cc

-- what a constant factor of a product multiplies is small with it
pub scaled_small : (sets : List (ℤ × ℤ)) (s t : Term) (k : ℤ) (m : ℕ) → Some k ≡ constant_value s → m ≤ term_magnitude sets t → IsSmall (term_magnitude sets s * term_magnitude sets t) → IsSmall (unsigned_abs k * m)
scaled_small sets s t k m e h small = let j = constant_magnitude sets s k e in omega (arith, mul-le-mul_left (unsigned_abs k) h, subst (λ n. IsSmall (n * term_magnitude sets t)) j small)

pub scaled_coef : (sets : List (ℤ × ℤ)) (s t : Term) (k v : ℤ) (x : ℕ) → Some k ≡ constant_value s → v ≡ coef t x → IsSmall (term_magnitude sets s * term_magnitude sets t) → IsSmall (unsigned_abs k * unsigned_abs v)
scaled_coef sets s t k v x e f small = scaled_small sets s t k (unsigned_abs v) e (omega (arith, ap unsigned_abs f, coef_small sets t x)) small

pub swapped_small : (m n : ℕ) → IsSmall (m * n) → IsSmall (n * m)
swapped_small m n s = omega (arith, s)

-- ---- products with a constant factor

pub product_left : (s t : Term) (k : ℤ) → Some k ≡ constant_value s → product s t ≡ Term.scale k t
product_left s t k e = ap (λ o. product_by o (constant_value t) s t) (sym e)

pub product_right : (s t : Term) (k : ℤ) → None ≡ constant_value s → Some k ≡ constant_value t → product s t ≡ Term.scale k s
product_right s t k e f = ap (λ o. product_by o (constant_value t) s t) (sym e) ∙ ap (λ o. product_by None o s t) (sym f)

pub product_whole : (s t : Term) → None ≡ constant_value s → None ≡ constant_value t → product s t ≡ Term.mul s t
product_whole s t e f = ap (λ o. product_by o (constant_value t) s t) (sym e) ∙ ap (λ o. product_by None o s t) (sym f)

module _ (tables : List Table) (resources : List Resource) where
  pub mul_coefficient : (e a b p q : Expr) (x : ℕ) (k : ℤ) → e ≡ E.Mul a b → p ≡ a → q ≡ b → Some k ≡ constant_value (term tables resources p) → k *ℤ coef (term tables resources q) x ≡ coef (term tables resources e) x
  mul_coefficient e a b p q x k i j l f =
      ap (λ z. k *ℤ coef (term tables resources z) x) l ∙ sym (ap (λ z. coef (term tables resources z) x) i ∙ ap (λ t. coef t x) (term_Mul tables resources a b)
      ∙ ap (λ t. coef t x) (product_left (term tables resources a) (term tables resources b) k (f ∙ ap (λ z. constant_value (term tables resources z)) j)))

  pub mul_coefficient_right : (e a b p p' q : Expr) (x : ℕ) (k : ℤ) → e ≡ E.Mul a b → p ≡ a → p' ≡ a → q ≡ b → None ≡ constant_value (term tables resources p) → Some k ≡ constant_value (term tables resources q)
      → k *ℤ coef (term tables resources p') x ≡ coef (term tables resources e) x
  mul_coefficient_right e a b p p' q x k i j j' l f g =
      ap (λ z. k *ℤ coef (term tables resources z) x) j' ∙ sym (ap (λ z. coef (term tables resources z) x) i ∙ ap (λ t. coef t x) (term_Mul tables resources a b)
      ∙ ap (λ t. coef t x) (product_right (term tables resources a) (term tables resources b) k (f ∙ ap (λ z. constant_value (term tables resources z)) j) (g ∙ ap (λ z. constant_value (term tables resources z)) l)))

-- ---- loops from the right

pub none_left : (n : ℕ) → n ≤ 0 → n ≡ 0
none_left n h = omega arith

-- what is left from the place before begins with the part there
pub part_before : {X : Type 0} (xs : List X) (L : ℕ) (x : X) → 0 < L → L ≤ length xs → x ≡ get_or xs (L - 1) x → drop (L - 1) xs ≡ x ∷ drop L xs
part_before xs L x p h e = subst (λ k. drop (L - 1) xs ≡ x ∷ drop k xs) (one_less L p) (drop_at xs (L - 1) x (omega arith) e)

pub coefs_more : (f : Expr → Term) (xs : List Expr) (L x : ℕ) (e : Expr) (k total : ℤ) → 0 < L → L ≤ length xs → e ≡ get_or xs (L - 1) e → k ≡ coef (f e) x → total ≡ coefs (terms_of (map f (drop L xs))) x
    → k +ℤ total ≡ coefs (terms_of (map f (drop (L - 1) xs))) x
coefs_more f xs L x e k total p h i j t = ap (λ v. v +ℤ total) j ∙ ap (λ v. coef (f e) x +ℤ v) t ∙ ap (λ ys. coefs (terms_of (map f ys)) x) (sym (part_before xs L e p h i))

pub coefs_fit : (sets : List (ℤ × ℤ)) (f : Expr → Term) (xs : List Expr) (L x : ℕ) (e : Expr) (k total : ℤ) → 0 < L → L ≤ length xs → e ≡ get_or xs (L - 1) e → k ≡ coef (f e) x → total ≡ coefs (terms_of (map f (drop L xs))) x
    → IsSmall (sum_magnitude sets (terms_of (map f xs))) → IsSmall (unsigned_abs k + unsigned_abs total)
coefs_fit sets f xs L x e k total p h i j t s =
    omega (arith, ap unsigned_abs j, ap unsigned_abs t, coef_small sets (f e) x, coefs_small sets f (drop L xs) x, sum_loop sets f xs L e p h i s)

pub none_linear : (f : Expr → Term) (xs : List Expr) (L : ℕ) (e : Expr) → 0 < L → L ≤ length xs → e ≡ get_or xs (L - 1) e → pure (f e) ≡ false → false ≡ all_pure (terms_of (map f xs))
none_linear f [] L e p h i j = absurd (omega arith)
none_linear f (x ∷ xs) zero e p h i j = absurd (omega (arith, p))
none_linear f (x ∷ xs) (suc zero) e p h i j = let s : e ≡ x = i in rw (sym (ap (λ z. pure (f z)) s) ∙ j) refl
none_linear f (x ∷ xs) (suc (suc L)) e p h i j = later (pure (f x)) (none_linear f xs (suc L) e (omega arith) (omega arith) (here i) j)
  where
    later : (b : Bool) {c : Bool} → false ≡ c → false ≡ (b && c)
    later true q = q
    later false q = refl

    here : e ≡ get_or (x ∷ xs) (suc (suc L) - 1) e → e ≡ get_or xs (suc L - 1) e
    here q = let k : suc (suc L) - 1 ≡ suc (suc L - 1) = omega arith in subst (λ k. e ≡ get_or (x ∷ xs) k e) k q
