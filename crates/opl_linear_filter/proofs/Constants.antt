-- The number beside the variables of an expression is small, and the steps of its code.
use Rattle.std.proofs.Common.{◌≡◌, ◌∙◌, ℕ, ◌+◌, ◌-◌, ◌*◌, ◌≤◌, ◌<◌, List, map, length, get_or, drop, ℤ, ◌+ℤ◌, ◌*ℤ◌, neg_ℤ, ap, sym, arith}
use Rattle.std.specs.Prelude.{Some, None, unsigned_abs}
use Rattle.std.proofs.Math.Nat.{mul-le-mul_left}
use Rattle.std.proofs.lemmas.Int.{ints, unsigned_abs-mul}
use Rattle.opl_expr.specs.declared.forms.Expr.{Expr}
use Rattle.opl_expr.specs.declared.forms.Expr.TheVariants as E
use Rattle.opl_expr.specs.declared.tables.Table.{Table}
use Rattle.opl_expr.specs.declared.tables.Resource.{Resource}
use Rattle.opl_expr.specs.Forms.{Term, Terms, terms_of, term, constant_value}
use Rattle.opl_expr.specs.Sound.{IsSmall, term_magnitude, sum_magnitude, IsSoundTerm}
use Rattle.opl_expr.proofs.Bounds.{sound_small}
use Rattle.opl_expr.proofs.Plain.{term_Mul}
use Rattle.opl_expr.proofs.Parts.{sum_loop}
use Rattle.opl_range.proofs.Parts.{scaled_small, product_left, product_right, part_before}
use Rattle.opl_linear.specs.Forms.{constant_part, constant_parts}

mutual
  pub part_small : (sets : List (ℤ × ℤ)) (t : Term) → unsigned_abs (constant_part t) ≤ term_magnitude sets t
  part_small sets (Term.const k) = omega arith
  part_small sets (Term.var x) = omega arith
  part_small sets (Term.sum ts) = parts_small sets ts
  part_small sets (Term.neg t) = let s : unsigned_abs (neg_ℤ (constant_part t)) ≡ unsigned_abs (constant_part t) = omega (arith, ints) in omega (arith, s, part_small sets t)
  part_small sets (Term.scale k t) = omega (arith, unsigned_abs-mul k (constant_part t), mul-le-mul_left (unsigned_abs k) (part_small sets t))
  part_small sets (Term.mul s t) = omega arith
  part_small sets (Term.div s t) = omega arith
  part_small sets (Term.rem s t) = omega arith
  part_small sets (Term.abs t) = omega arith
  part_small sets (Term.least ts) = omega arith
  part_small sets (Term.greatest ts) = omega arith
  part_small sets (Term.at table ts) = omega arith
  part_small sets (Term.truth c) = omega arith
  part_small sets (Term.asked ask x) = omega arith

  pub parts_small : (sets : List (ℤ × ℤ)) (ts : Terms) → unsigned_abs (constant_parts ts) ≤ sum_magnitude sets ts
  parts_small sets Terms.no_terms = omega arith
  parts_small sets (Terms.more_terms t ts) =
      let s : unsigned_abs (constant_part t +ℤ constant_parts ts) ≤ unsigned_abs (constant_part t) + unsigned_abs (constant_parts ts) = omega (arith, ints) in
      omega (arith, s, part_small sets t, parts_small sets ts)

pub negated_small : (sets : List (ℤ × ℤ)) (t : Term) (r : ℤ) → IsSoundTerm sets t → r ≡ constant_part t → IsSmall (unsigned_abs r)
negated_small sets t r s e = omega (arith, ap unsigned_abs e, part_small sets t, sound_small sets t s)

pub scaled_part : (sets : List (ℤ × ℤ)) (s t : Term) (k v : ℤ) → Some k ≡ constant_value s → v ≡ constant_part t → IsSmall (term_magnitude sets s * term_magnitude sets t) → IsSmall (unsigned_abs k * unsigned_abs v)
scaled_part sets s t k v e f small = scaled_small sets s t k (unsigned_abs v) e (omega (arith, ap unsigned_abs f, part_small sets t)) small

module _ (tables : List Table) (resources : List Resource) where
  pub mul_part : (e a b p q : Expr) (k : ℤ) → e ≡ E.Mul a b → p ≡ a → q ≡ b → Some k ≡ constant_value (term tables resources p) → k *ℤ constant_part (term tables resources q) ≡ constant_part (term tables resources e)
  mul_part e a b p q k i j l f =
      ap (λ z. k *ℤ constant_part (term tables resources z)) l ∙ sym (ap (λ z. constant_part (term tables resources z)) i ∙ ap constant_part (term_Mul tables resources a b)
      ∙ ap constant_part (product_left (term tables resources a) (term tables resources b) k (f ∙ ap (λ z. constant_value (term tables resources z)) j)))

  pub mul_part_right : (e a b p p' q : Expr) (k : ℤ) → e ≡ E.Mul a b → p ≡ a → p' ≡ a → q ≡ b → None ≡ constant_value (term tables resources p) → Some k ≡ constant_value (term tables resources q)
      → k *ℤ constant_part (term tables resources p') ≡ constant_part (term tables resources e)
  mul_part_right e a b p p' q k i j j' l f g =
      ap (λ z. k *ℤ constant_part (term tables resources z)) j' ∙ sym (ap (λ z. constant_part (term tables resources z)) i ∙ ap constant_part (term_Mul tables resources a b)
      ∙ ap constant_part (product_right (term tables resources a) (term tables resources b) k (f ∙ ap (λ z. constant_value (term tables resources z)) j) (g ∙ ap (λ z. constant_value (term tables resources z)) l)))

pub parts_more : (f : Expr → Term) (xs : List Expr) (L : ℕ) (e : Expr) (k total : ℤ) → 0 < L → L ≤ length xs → e ≡ get_or xs (L - 1) e → k ≡ constant_part (f e) → total ≡ constant_parts (terms_of (map f (drop L xs)))
    → k +ℤ total ≡ constant_parts (terms_of (map f (drop (L - 1) xs)))
parts_more f xs L e k total p h i j t = ap (λ v. v +ℤ total) j ∙ ap (λ v. constant_part (f e) +ℤ v) t ∙ ap (λ ys. constant_parts (terms_of (map f ys))) (sym (part_before xs L e p h i))

pub parts_fit : (sets : List (ℤ × ℤ)) (f : Expr → Term) (xs : List Expr) (L : ℕ) (e : Expr) (k total : ℤ) → 0 < L → L ≤ length xs → e ≡ get_or xs (L - 1) e → k ≡ constant_part (f e) → total ≡ constant_parts (terms_of (map f (drop L xs)))
    → IsSmall (sum_magnitude sets (terms_of (map f xs))) → IsSmall (unsigned_abs k + unsigned_abs total)
parts_fit sets f xs L e k total p h i j t s =
    omega (arith, ap unsigned_abs j, ap unsigned_abs t, part_small sets (f e), parts_small sets (terms_of (map f (drop L xs))), sum_loop sets f xs L e p h i s)

pub constants_fit : (sets : List (ℤ × ℤ)) (s t : Term) (v w : ℤ) → IsSmall (term_magnitude sets s + term_magnitude sets t) → v ≡ constant_part s → w ≡ constant_part t → IsSmall (unsigned_abs v + unsigned_abs w)
constants_fit sets s t v w h e f = omega (arith, h, ap unsigned_abs e, ap unsigned_abs f, part_small sets s, part_small sets t)
