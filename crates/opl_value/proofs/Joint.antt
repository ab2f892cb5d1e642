-- The place of a key, dimension after dimension.
use Rattle.std.proofs.Common.{◌≡◌, ℕ, suc, ◌+◌, ◌*◌, ◌<◌, ◌≤◌, true, false, cond, ◌||◌, List, [], ◌∷◌, length, Option, None, Some, refl, sym, ap, ◌∙◌, arith, true≢false}
use Rattle.std.proofs.Math.Nat.{mul-le-mul_left, mul-le-mul_right}
use Rattle.std.specs.List.{list_any}
use Rattle.std.specs.Option.{option_map}
use Rattle.std.proofs.lemmas.Bool.Decides.{nat_tests}
use Rattle.opl_value.specs.declared.value.Value.{Value}
use Rattle.opl_value.specs.Places.{place_in, place_of, elements, joint, behind, has_none}
use Rattle.opl_value.proofs.Places.{by_first}

-- a place is within the list
pub place_in-within : (v : Value) (ws : List Value) (p : ℕ) → place_in v ws ≡ Some p → p < length ws
place_in-within v [] p e = absurd (cc)
place_in-within v (w ∷ ws) p e = by_first v w
    (λ t s. let z : Some 0 ≡ Some p = sym (ap (λ b. cond b (Some 0) (option_map suc (place_in v ws))) t) ∙ e in
    let n : 0 ≡ p = cc in omega arith)
    (λ f. later (place_in-within v ws) (place_in v ws) refl (sym (ap (λ b. cond b (Some 0) (option_map suc (place_in v ws))) f) ∙ e))
  where
    later : ((k : ℕ) → place_in v ws ≡ Some k → k < length ws) → (o : Option ℕ) → place_in v ws ≡ o → option_map suc (place_in v ws) ≡ Some p → p < suc (length ws)
    later inside None q h = let z : None ≡ Some p = sym (ap (option_map suc) q) ∙ h in absurd (cc)
    later inside (Some k) q h =
        let z : Some (suc k) ≡ Some p = sym (ap (option_map suc) q) ∙ h in
        let n : suc k ≡ p = cc in
        let l = inside k q in
        omega arith

-- a list with a first member is not empty
more-filled : (v : Value) (vs : List Value) → has_none (v ∷ vs) ≡ false
more-filled v vs = grind (arith, nat_tests)

pub behind-first : (v : Value) (vs : List Value) (ds : List (List Value)) → list_any has_none ((v ∷ vs) ∷ ds) ≡ list_any has_none ds
behind-first v vs ds = ap (λ b. b || list_any has_none ds) (more-filled v vs)

-- where no dimension is empty there are keys
pub elements-filled : (ds : List (List Value)) → list_any has_none ds ≡ false → 1 ≤ elements ds
elements-filled [] h = omega arith
elements-filled ([] ∷ ds) h = absurd (true≢false h)
elements-filled ((v ∷ vs) ∷ ds) h =
    let others = elements-filled ds (sym (behind-first v vs ds) ∙ h) in
    let more : suc (length vs) * 1 ≤ suc (length vs) * elements ds = mul-le-mul_left (suc (length vs)) others in
    omega arith

pub first-filled : (d : List Value) (ds : List (List Value)) → list_any has_none (d ∷ ds) ≡ false → 1 ≤ length d
first-filled [] ds h = absurd (true≢false h)
first-filled (v ∷ vs) ds h = omega arith

pub others-filled : (d : List Value) (ds : List (List Value)) → list_any has_none (d ∷ ds) ≡ false → list_any has_none ds ≡ false
others-filled [] ds h = absurd (true≢false h)
others-filled (v ∷ vs) ds h = sym (behind-first v vs ds) ∙ h

module _ (d : List Value) (ds : List (List Value)) (before limit : ℕ) (filled : list_any has_none (d ∷ ds) ≡ false) (countable : (before + 1) * elements (d ∷ ds) < limit) where
  pub size-fits : length d < limit
  size-fits =
      let others = elements-filled ds (others-filled d ds filled) in
      let a : length d * 1 ≤ length d * elements ds = mul-le-mul_left (length d) others in
      let b : 1 * (length d * elements ds) ≤ (before + 1) * (length d * elements ds) = mul-le-mul_right (length d * elements ds) (omega arith) in
      omega arith

  module _ (p : ℕ) (within : p < length d) where
    pub room : (before * length d + p + 1) * elements ds < limit
    room =
        let a : (before * length d + p + 1) * elements ds ≤ ((before + 1) * length d) * elements ds = mul-le-mul_right (elements ds) (omega arith) in
        omega arith

    pub place-fits : before * length d + p < limit
    place-fits =
        let others = elements-filled ds (others-filled d ds filled) in
        let a : (before * length d + p + 1) * 1 ≤ (before * length d + p + 1) * elements ds = mul-le-mul_left (before * length d + p + 1) others in
        let b = room in
        omega arith

-- a place behind groups of groups
pub behind-joint : (before p n k : ℕ) (o : Option ℕ) → behind before (n * k) (joint k (Some p) o) ≡ behind (before * n + p) k o
behind-joint before p n k None = refl
behind-joint before p n k (Some q) = ap Some (omega arith)

-- no key has a place where a dimension is empty
pub place_of-empty : (ds : List (List Value)) (vs : List Value) → list_any has_none ds ≡ true → place_of ds vs ≡ None
place_of-empty [] vs h = absurd (true≢false (sym h))
place_of-empty (d ∷ ds) [] h = refl
place_of-empty ([] ∷ ds) (v ∷ vs) h = refl
place_of-empty ((w ∷ ws) ∷ ds) (v ∷ vs) h =
    ap (joint (elements ds) (place_in v (w ∷ ws))) (place_of-empty ds vs (sym (behind-first w ws ds) ∙ h)) ∙ nowhere (place_in v (w ∷ ws))
  where
    nowhere : (p : Option ℕ) → joint (elements ds) p None ≡ None
    nowhere None = refl
    nowhere (Some p) = refl

-- behind nothing it is the place itself
pub behind-zero : (n : ℕ) (o : Option ℕ) → behind 0 n o ≡ o
behind-zero n None = refl
behind-zero n (Some q) = ap Some (omega arith)

-- the places of a first group are those of the whole
pub behind-none : (n : ℕ) (o : Option ℕ) → behind 0 n o ≡ o
behind-none n None = refl
behind-none n (Some q) = ap Some (omega arith)
