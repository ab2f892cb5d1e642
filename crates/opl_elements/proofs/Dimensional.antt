-- The indices of dimensions.
use Rattle.std.proofs.Common.{◌≡◌, ℕ, zero, suc, ◌+◌, ◌-◌, ◌<◌, max, ℤ, pos, negsuc, ◌+ℤ◌, ◌-ℤ◌, ◌<ℤ◌, ◌≤ℤ◌, unsigned_abs, Bool, true, false, cond, ◌&&◌, List, [], ◌∷◌, length, map, get_or, drop, Option, Some, None, refl, sym, ap, subst, ◌∙◌, arith}
use Rattle.std.specs.Option.{option_map}
use Rattle.std.proofs.lemmas.Int.{ints}
use Rattle.opl_value.specs.declared.value.Value.{Value}
use Rattle.opl_value.specs.declared.value.Value.TheVariants as values
use Rattle.opl_value.specs.declared.value.Dimension.TheViews.{out-Value}
use Rattle.opl_value.specs.declared.value.Dimension.TheVariants as dims
use Rattle.opl_value.specs.declared.value.Dimension.TheVariants.{outs-Whole}
use Rattle.opl_value.specs.Order.{value_eq}
use Rattle.opl_value.specs.Places.{numbers_between, numbers_from, or_zero, place_in, sorted_layer, IsSorted}
use Rattle.opl_value.proofs.Places.{values-Listed, values-Whole}
use Rattle.opl_eval.specs.Compare.{rank, rank_layer}
use Rattle.opl_expr.specs.Sound.{greatest_abs}
use Rattle.opl_expr.proofs.Parts.{drop_at}
use Rattle.opl_form.specs.Parts.{Form, Sort, alike, all_alike, first_sort, indices_of, key_layer, places_from}
use Rattle.opl_form.specs.Parts.Form.{known, number, name, condition, truth}
use Rattle.opl_form.specs.Parts.Sort.{whole}
use Rattle.opl_form.proofs.Indices.{alike-indices}
use Rattle.opl_nodes.specs.Pieces.{value_of}
use Rattle.opl_elements.specs.Places.{subscript_place}

-- ---- the place of a value in a list

module _ (v : Value) (xs : List Value) (i : ℕ) (x : Value) (l : i < length xs) (read : x ≡ get_or xs i x) (before : place_in v xs ≡ option_map (λ k. i + k) (place_in v (drop i xs))) where
  here : place_in v xs ≡ option_map (λ k. i + k) (cond (value_eq v x) (Some 0) (option_map suc (place_in v (drop (i + 1) xs))))
  here = before ∙ ap (λ ys. option_map (λ k. i + k) (place_in v ys)) (drop_at xs i x l read)

  pub place-found : value_eq v x ≡ true → Some i ≡ place_in v xs
  place-found h = sym (here ∙ ap (λ b. option_map (λ k. i + k) (cond b (Some 0) (option_map suc (place_in v (drop (i + 1) xs))))) h ∙ ap (λ k. Some k) (plus-zero i))
    where
      plus-zero : (i : ℕ) → i + 0 ≡ i
      plus-zero i = omega arith

  pub place-next : value_eq v x ≡ false → place_in v xs ≡ option_map (λ k. (i + 1) + k) (place_in v (drop (i + 1) xs))
  place-next h = here ∙ ap (λ b. option_map (λ k. i + k) (cond b (Some 0) (option_map suc (place_in v (drop (i + 1) xs))))) h ∙ behind (place_in v (drop (i + 1) xs))
    where
      plus-suc : (i k : ℕ) → i + suc k ≡ (i + 1) + k
      plus-suc i k = omega arith

      behind : (o : Option ℕ) → option_map (λ k. i + k) (option_map suc o) ≡ option_map (λ k. (i + 1) + k) o
      behind None = refl
      behind (Some k) = ap (λ k. Some k) (plus-suc i k)

pub place-first : (v : Value) (xs : List Value) → place_in v xs ≡ option_map (λ k. 0 + k) (place_in v (drop 0 xs))
place-first v xs = by (place_in v xs)
  where
    zero-plus : (k : ℕ) → k ≡ 0 + k
    zero-plus k = omega arith

    by : (o : Option ℕ) → o ≡ option_map (λ k. 0 + k) o
    by None = refl
    by (Some k) = ap (λ k. Some k) (zero-plus k)

-- ---- subscripts without variables

pub subscript-known : (d : List Value) (g : Form) (v : Value) → value_of g ≡ Some v → subscript_place d g ≡ place_in v d
subscript-known d (known w) v h = let e : w ≡ v = cc in ap (λ v. place_in v d) e
subscript-known d (number e) v h = absurd (cc)
subscript-known d (name n e) v h = absurd (cc)
subscript-known d (condition c) v h = absurd (cc)
subscript-known d (truth c) v h = absurd (cc)

pub subscript-live : (d : List Value) (g : Form) → value_of g ≡ None → subscript_place d g ≡ None
subscript-live d (known w) h = absurd (cc)
subscript-live d (number e) h = refl
subscript-live d (name n e) h = refl
subscript-live d (condition c) h = refl
subscript-live d (truth c) h = refl

-- ---- whole numbers

whole-key : (n : ℤ) → key_layer (out-Value (values.Int n)) ≡ whole
whole-key n = ap key_layer (values.outs-Int n)

whole-rank : (n : ℤ) → rank (values.Int n) ≡ n
whole-rank n = ap rank_layer (values.outs-Int n)

and-true : (b : Bool) → (b && true) ≡ b
and-true true = refl
and-true false = refl

and-same : (b : Bool) → (b && b) ≡ b
and-same true = refl
and-same false = refl

numbers-alike : (s : Sort) (low : ℤ) (n : ℕ) → all_alike s (numbers_from low (suc n)) ≡ alike s whole
numbers-alike s low zero = ap (λ t. alike s t && true) (whole-key low) ∙ and-true (alike s whole)
numbers-alike s low (suc n) = (λ i. alike s (whole-key low i) && numbers-alike s (low +ℤ pos 1) n i) ∙ and-same (alike s whole)

convex : (low : ℤ) (n : ℕ) → max (unsigned_abs low) (max (unsigned_abs (low +ℤ pos 1)) (unsigned_abs ((low +ℤ pos 1) +ℤ pos n))) ≡ max (unsigned_abs low) (unsigned_abs (low +ℤ pos (suc n)))
convex low n = omega (arith, ints)

alone : (low : ℤ) → max (unsigned_abs low) 0 ≡ max (unsigned_abs low) (unsigned_abs (low +ℤ pos 0))
alone low = omega (arith, ints)

numbers-greatest : (low : ℤ) (n : ℕ) → greatest_abs (map rank (numbers_from low (suc n))) ≡ max (unsigned_abs low) (unsigned_abs (low +ℤ pos n))
numbers-greatest low zero = ap (λ r. max (unsigned_abs r) 0) (whole-rank low) ∙ alone low
numbers-greatest low (suc n) = (λ i. max (unsigned_abs (whole-rank low i)) (numbers-greatest (low +ℤ pos 1) n i)) ∙ convex low n

-- how many numbers there are from low to high
count-none : (z : ℤ) → z ≤ℤ pos 0 → or_zero z ≡ 0
count-none (pos zero) h = refl
count-none (pos (suc n)) h = absurd (omega (arith, ints, h))
count-none (negsuc n) h = refl

count-some : (z : ℤ) → pos 1 ≤ℤ z → (n : ℕ) × (or_zero z ≡ suc n) × (z ≡ pos (suc n))
count-some (pos zero) h = absurd (omega (arith, ints, h))
count-some (pos (suc n)) h = (n, refl, refl)
count-some (negsuc n) h = absurd (omega (arith, ints, h))

pub between-none : (low high : ℤ) → high <ℤ low → numbers_between low high ≡ []
between-none low high h = ap (numbers_from low) (count-none (high +ℤ pos 1 -ℤ low) (omega (arith, ints, h)))

pub between-some : (low high : ℤ) → low ≤ℤ high → (n : ℕ) × (numbers_between low high ≡ numbers_from low (suc n)) × (low +ℤ pos n ≡ high)
between-some low high h =
    let p = count-some (high +ℤ pos 1 -ℤ low) (omega (arith, ints, h)) in
    (p.0, ap (numbers_from low) p.1, last low high p.0 p.2)
  where
    last : (low high : ℤ) (n : ℕ) → high +ℤ pos 1 -ℤ low ≡ pos (suc n) → low +ℤ pos n ≡ high
    last low high n e = omega (arith, ints, e)

pub between-alike : (s : Sort) (low high : ℤ) → low ≤ℤ high → all_alike s (numbers_between low high) ≡ alike s whole
between-alike s low high h = let p = between-some low high h in ap (all_alike s) p.1 ∙ numbers-alike s low p.0

pub between-greatest : (low high : ℤ) → low ≤ℤ high → greatest_abs (indices_of (numbers_between low high)) ≡ max (unsigned_abs low) (unsigned_abs high)
between-greatest low high h =
    let p = between-some low high h in
    ap greatest_abs (alike-indices whole (numbers_between low high) (between-alike whole low high h))
    ∙ ap (λ d. greatest_abs (map rank d)) p.1 ∙ numbers-greatest low p.0 ∙ ap (λ z. max (unsigned_abs low) (unsigned_abs z)) p.2

-- ---- listed indices

pub listed-alike : (d : List Value) → all_alike (first_sort d) d ≡ true → greatest_abs (indices_of d) ≡ greatest_abs (map rank d)
listed-alike d h = ap greatest_abs (alike-indices (first_sort d) d h)

places-greatest : (m n : ℕ) → greatest_abs (places_from m (suc n)) ≡ m + n
places-greatest m zero = last m
  where
    last : (m : ℕ) → max m 0 ≡ m + 0
    last m = omega arith
places-greatest m (suc n) = ap (λ k. max m k) (places-greatest (suc m) n) ∙ more m n
  where
    more : (m n : ℕ) → max m (suc m + n) ≡ m + suc n
    more m n = omega arith

pub listed-places : (d : List Value) → all_alike (first_sort d) d ≡ false → greatest_abs (indices_of d) ≡ length d - 1
listed-places d h = ap (λ b. greatest_abs (cond b (map rank d) (places_from 0 (length d)))) h ∙ by (length d) (filled d h)
  where
    filled : (d : List Value) → all_alike (first_sort d) d ≡ false → 0 < length d
    filled [] h = absurd (cc)
    filled (v ∷ vs) h = omega arith

    less : (n : ℕ) → 0 + n ≡ suc n - 1
    less n = omega arith

    by : (n : ℕ) → 0 < n → greatest_abs (places_from 0 n) ≡ n - 1
    by zero l = absurd (omega (arith, l))
    by (suc n) l = places-greatest 0 n ∙ less n

-- ---- the variants of dimensions

pub sorted-Whole : (low high : ℤ) → IsSorted (dims.Whole low high)
sorted-Whole low high = subst sorted_layer (sym (outs-Whole low high)) tt

pub ruleset variants = (values-Whole, values-Listed, sorted-Whole)
