-- The places of subscripts.
use Rattle.std.proofs.Common.{◌≡◌, ℕ, zero, suc, ◌+◌, ◌*◌, ◌<◌, ℤ, true, false, cond, ◌&&◌, List, [], ◌∷◌, length, get_or, drop, Option, Some, None, refl, sym, ap, subst, ◌∙◌, arith}
use Rattle.std.specs.List.{list_all, list_any}
use Rattle.std.specs.Option.{is_some, option_map}
use Rattle.opl_value.specs.declared.value.Value.{Value}
use Rattle.opl_value.specs.declared.value.Dimension.TheVariants as dims
use Rattle.opl_value.specs.declared.value.Dimension.TheVariants.{outs-Whole}
use Rattle.opl_value.specs.Order.{value_eq}
use Rattle.opl_value.specs.Places.{elements, has_none, joint, place_in, place_of, sorted_layer, IsSorted}
use Rattle.opl_value.proofs.Joint.{behind-first, place_in-within}
use Rattle.opl_value.proofs.Places.{values-Listed, values-Whole}
use Rattle.opl_draft.specs.Settled.{pair_of}
use Rattle.opl_expr.proofs.Parts.{drop_at}
use Rattle.opl_held.specs.declared.outcome.Outcome.{Outcome}
use Rattle.opl_held.specs.declared.outcome.Outcome.TheVariants.{Fixed, Live}
use Rattle.opl_held.specs.Keys.{is_fixed, key_place, place_or_none}
use Rattle.opl_held.specs.Outcomes.{Worth, both, changed, data_of, each, value_of}
use Rattle.opl_held.proofs.Values.{both-value, changed-value, follow, values_of}

-- ---- the variants of dimensions

pub sorted-Whole : (low high : ℤ) → IsSorted (dims.Whole low high)
sorted-Whole low high = subst sorted_layer (sym (outs-Whole low high)) tt

pub ruleset variants = (values-Whole, values-Listed, sorted-Whole)

-- ---- the place of a value in a list

module _ (v : Value) (xs : List Value) (i : ℕ) (x : Value) (l : i < length xs) (read : x ≡ get_or xs i x) (before : place_in v xs ≡ option_map (λ k. i + k) (place_in v (drop i xs))) where
  here : place_in v xs ≡ option_map (λ k. i + k) (cond (value_eq v x) (Some 0) (option_map suc (place_in v (drop (i + 1) xs))))
  here = before ∙ ap (λ ys. option_map (λ k. i + k) (place_in v ys)) (drop_at xs i x l read)

  pub place-found : value_eq v x ≡ true → Some i ≡ place_in v xs
  place-found h = sym (here ∙ ap (λ b. option_map (λ k. i + k) (cond b (Some 0) (option_map suc (place_in v (drop (i + 1) xs))))) h ∙ ap (λ k. Some k) (plus-zero i))
    where
      plus-zero : (i : ℕ) → i + 0 ≡ i
      plus-zero i = omega arith

  pub place-next : value_eq v x ≡ false → place_in v xs ≡ option_map (λ k. (i + 1) + k) (place_in v (drop (i + 1) xs))
  place-next h = here ∙ ap (λ b. option_map (λ k. i + k) (cond b (Some 0) (option_map suc (place_in v (drop (i + 1) xs))))) h ∙ behind (place_in v (drop (i + 1) xs))
    where
      plus-suc : (i k : ℕ) → i + suc k ≡ (i + 1) + k
      plus-suc i k = omega arith

      behind : (o : Option ℕ) → option_map (λ k. i + k) (option_map suc o) ≡ option_map (λ k. (i + 1) + k) o
      behind None = refl
      behind (Some k) = ap (λ k. Some k) (plus-suc i k)

pub place-first : (v : Value) (xs : List Value) → place_in v xs ≡ option_map (λ k. 0 + k) (place_in v (drop 0 xs))
place-first v xs = by (place_in v xs)
  where
    zero-plus : (k : ℕ) → k ≡ 0 + k
    zero-plus k = omega arith

    by : (o : Option ℕ) → o ≡ option_map (λ k. 0 + k) o
    by None = refl
    by (Some k) = ap (λ k. Some k) (zero-plus k)

-- ---- keys

pub place-within : (d : List Value) (v : Option Value) (p : ℕ) → place_or_none d v ≡ Some p → p < length d
place-within d None p h = absurd (cc)
place-within d (Some v) p h = place_in-within v d p h

-- without keys there is no place
pub nowhere : (ds : List (List Value)) (os : List Worth) → elements ds ≡ 0 → key_place ds os ≡ None
nowhere [] os h = absurd (cc)
nowhere (d ∷ ds) [] h = refl
nowhere ([] ∷ ds) (o ∷ os) h = none (place_or_none [] (value_of o)) (key_place ds os) (λ p e. place-within [] (value_of o) p e) refl
  where
    none : (o q : Option ℕ) → ((p : ℕ) → o ≡ Some p → p < 0) → o ≡ o → joint (elements ds) o q ≡ None
    none None q f e = refl
    none (Some p) q f e = absurd (omega (arith, f p refl))
nowhere ((v ∷ vs) ∷ ds) (o ∷ os) h = ap (joint (elements ds) (place_or_none (v ∷ vs) (value_of o))) (nowhere ds os (rest (length vs) (elements ds) h)) ∙ none (place_or_none (v ∷ vs) (value_of o))
  where
    rest : (m n : ℕ) → suc m * n ≡ 0 → n ≡ 0
    rest m zero e = refl
    rest m (suc n) e = absurd (omega (arith, e))

    none : (p : Option ℕ) → joint (elements ds) p None ≡ None
    none None = refl
    none (Some p) = refl

pub all-filled : (ds : List (List Value)) → 0 < elements ds → list_any has_none ds ≡ false
all-filled [] h = refl
all-filled ([] ∷ ds) h = absurd (omega (arith, h))
all-filled ((v ∷ vs) ∷ ds) h = behind-first v vs ds ∙ all-filled ds (rest (length vs) (elements ds) h)
  where
    rest : (m n : ℕ) → 0 < suc m * n → 0 < n
    rest m zero e = absurd (omega (arith, e))
    rest m (suc n) e = omega arith

-- the place of subscripts is that of the key that they come to
pub key-place : (ds : List (List Value)) (os : List Worth) → key_place ds os ≡ follow (values_of os) (place_of ds)
key-place [] [] = refl
key-place [] (o ∷ os) = none (values_of (o ∷ os)) (changed-value (λ p. p.0 ∷ p.1) (both o (each os)))
  where
    none : (vs : Option (List Value)) → vs ≡ option_map (λ p. p.0 ∷ p.1) (value_of (both o (each os))) → None ≡ follow vs (place_of [])
    none None e = refl
    none (Some []) e = absurd (by (value_of (both o (each os))) e)
      where
        by : (p : Option (Value × List Value)) → Some [] ≡ option_map (λ p. p.0 ∷ p.1) p → ⊥
        by None e = cc
        by (Some p) e = cc
    none (Some (v ∷ vs)) e = refl
key-place (d ∷ ds) [] = refl
key-place (d ∷ ds) (o ∷ os) =
    ap (joint (elements ds) (place_or_none d (value_of o))) (key-place ds os)
    ∙ by (value_of o) (values_of os)
    ∙ ap (λ vs. follow vs (place_of (d ∷ ds))) (sym (changed-value (λ p. p.0 ∷ p.1) (both o (each os)) ∙ ap (option_map (λ p. p.0 ∷ p.1)) (both-value o (each os))))
  where
    none : (p : Option ℕ) → joint (elements ds) p None ≡ None
    none None = refl
    none (Some p) = refl

    by : (v : Option Value) (vs : Option (List Value)) → joint (elements ds) (place_or_none d v) (follow vs (place_of ds)) ≡ follow (option_map (λ p. p.0 ∷ p.1) (pair_of v vs)) (place_of (d ∷ ds))
    by None vs = refl
    by (Some v) None = none (place_in v d)
    by (Some v) (Some vs) = refl

-- where no variable is left in the subscripts, none is left in their key
pub key-fixed : (os : List Worth) → list_all is_fixed os ≡ is_some (data_of (each os))
key-fixed [] = refl
key-fixed (o ∷ os) = ap (λ z. is_fixed o && z) (key-fixed os) ∙ by o (each os)
  where
    by : (o : Worth) (vs : Outcome (List Value)) → (is_fixed o && is_some (data_of vs)) ≡ is_some (data_of (changed (λ p. p.0 ∷ p.1) (both o vs)))
    by (Fixed v) (Fixed vs) = refl
    by (Fixed v) (Live vs) = refl
    by (Live v) (Fixed vs) = refl
    by (Live v) (Live vs) = refl
