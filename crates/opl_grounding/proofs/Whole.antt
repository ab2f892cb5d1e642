-- The indices of dimensions.
use Rattle.std.proofs.Common.{◌≡◌, ℕ, zero, suc, ◌+◌, ℤ, pos, ◌+ℤ◌, ◌-ℤ◌, ◌&&◌, true, false, cond, List, [], ◌∷◌, ◌++◌, length, map, IfOk, Result, Ok, Err, refl, sym, ap, subst, ◌∙◌, arith}
use Rattle.opl_value.specs.declared.value.Value.{Value}
use Rattle.opl_value.specs.declared.value.Dimension.{Dimension}
use Rattle.opl_value.specs.declared.value.Dimension.TheVariants as dims
use Rattle.opl_value.specs.Places.{dimension_values, numbers_between, numbers_from, or_zero}
use Rattle.opl_value.proofs.Places.{values-Whole}
use Rattle.opl_eval.specs.Compare.{rank}
use Rattle.opl_form.specs.Parts.{alike, all_alike, first_sort, indices_of, places_from}
use Rattle.opl_form.specs.Parts.Sort.{whole}
use Rattle.opl_grounding.proofs.Variants.{key-Int}

-- ---- whole numbers

numbers-alike : (low : ℤ) (n : ℕ) → all_alike whole (numbers_from low n) ≡ true
numbers-alike low zero = refl
numbers-alike low (suc n) = λ i. alike whole (key-Int low i) && numbers-alike (low +ℤ pos 1) n i

numbers-indices : (low : ℤ) (n : ℕ) → indices_of (numbers_from low n) ≡ map rank (numbers_from low n)
numbers-indices low zero = refl
numbers-indices low (suc n) =
    let vs = numbers_from low (suc n) in
    ap (λ b. cond b (map rank vs) (places_from 0 (length vs))) (subst (λ s. all_alike s vs ≡ true) (sym (key-Int low)) (numbers-alike low (suc n)))

indices-Whole : (low high : ℤ) → indices_of (dimension_values (dims.Whole low high)) ≡ map rank (numbers_between low high)
indices-Whole low high = ap indices_of (values-Whole low high) ∙ numbers-indices low (or_zero (high +ℤ pos 1 -ℤ low))

-- the indices of whole numbers are their ranks
pub whole-indices : {E : Type 0} (r : Result (List ℤ) E) (d : Dimension) (vs : List Value) (low high : ℤ) → d ≡ dims.Whole low high → vs ≡ dimension_values d →
    IfOk r (λ ns. ns ≡ map rank vs) → IfOk r (λ ns. ns ≡ indices_of (dimension_values d))
whole-indices (Ok ns) d vs low high e k h =
    h ∙ ap (map rank) k ∙ ap (λ d. map rank (dimension_values d)) e ∙ ap (map rank) (values-Whole low high) ∙ sym (indices-Whole low high) ∙ ap (λ d. indices_of (dimension_values d)) (sym e)
whole-indices (Err fault) d vs low high e k h = tt

-- ---- listed values

pub by-ranks : (d : List Value) → all_alike (first_sort d) d ≡ true → indices_of d ≡ map rank d
by-ranks d h = ap (λ b. cond b (map rank d) (places_from 0 (length d))) h

pub by-places : (d : List Value) → all_alike (first_sort d) d ≡ false → indices_of d ≡ places_from 0 (length d)
by-places d h = ap (λ b. cond b (map rank d) (places_from 0 (length d))) h

-- ---- one behind another

places-more : (x n : ℕ) → places_from x n ++ pos (x + n) ∷ [] ≡ places_from x (suc n)
places-more x zero = ap (λ m. pos m ∷ []) (plus-zero x)
  where
    plus-zero : (x : ℕ) → x + 0 ≡ x
    plus-zero x = omega arith
places-more x (suc n) = ap (λ m. pos x ∷ (places_from (suc x) n ++ pos m ∷ [])) (plus-suc x n) ∙ ap (λ ps. pos x ∷ ps) (places-more (suc x) n)
  where
    plus-suc : (x n : ℕ) → x + suc n ≡ suc x + n
    plus-suc x n = omega arith

pub places-push : (n : ℕ) → places_from 0 n ++ pos n ∷ [] ≡ places_from 0 (n + 1)
places-push n = ap (λ m. places_from 0 n ++ pos m ∷ []) (zero-plus n) ∙ places-more 0 n ∙ ap (places_from 0) (plus-one n)
  where
    zero-plus : (n : ℕ) → n ≡ 0 + n
    zero-plus n = omega arith

    plus-one : (n : ℕ) → suc n ≡ n + 1
    plus-one n = omega arith
