-- Different keys have different places, and each number below that of the keys is a place.
use Rattle.std.proofs.Common.{◌≡◌, ℕ, zero, suc, ◌+◌, ◌*◌, ◌/◌, ◌%◌, ◌<◌, ◌≤◌, cond, List, [], ◌∷◌, length, Option, None, Some, refl, sym, ap, ◌∙◌, arith}
use Rattle.std.proofs.Math.Nat.{mul-le-mul_right}
use Rattle.std.specs.Option.{option_map}
use Rattle.opl_value.specs.declared.value.Value.{Value}
use Rattle.opl_value.specs.Laws.{PlacesAreBelow, PlacesAreApart, EachNumberIsAPlace}
use Rattle.opl_value.specs.Places.{value_at, place_in, place_of, elements, joint}
use Rattle.opl_value.proofs.Places.{by_first, place_in-found}
use Rattle.opl_value.proofs.Joint.{place_in-within}
use Rattle.opl_value.proofs.Search.{by_size}

-- the value that stands at the place of a value
place_in-at : (v : Value) (ws : List Value) (p : ℕ) → place_in v ws ≡ Some p → value_at ws p ≡ v
place_in-at v [] p e = absurd (cc)
place_in-at v (w ∷ ws) p e = by_first v w
    (λ t s. let z : Some 0 ≡ Some p = sym (ap (λ b. cond b (Some 0) (option_map suc (place_in v ws))) t) ∙ e in
    let n : 0 ≡ p = cc in ap (value_at (w ∷ ws)) (sym n) ∙ sym s)
    (λ f. later (place_in-at v ws) (place_in v ws) refl (sym (ap (λ b. cond b (Some 0) (option_map suc (place_in v ws))) f) ∙ e))
  where
    later : ((k : ℕ) → place_in v ws ≡ Some k → value_at ws k ≡ v) → (o : Option ℕ) → place_in v ws ≡ o → option_map suc (place_in v ws) ≡ Some p → value_at (w ∷ ws) p ≡ v
    later inside None q h = let z : None ≡ Some p = sym (ap (option_map suc) q) ∙ h in absurd (cc)
    later inside (Some k) q h =
        let z : Some (suc k) ≡ Some p = sym (ap (option_map suc) q) ∙ h in
        let n : suc k ≡ p = cc in
        ap (value_at (w ∷ ws)) (sym n) ∙ inside k q

-- the parts of a joint place
record Split (n : ℕ) (a b : Option ℕ) (p : ℕ) : Type 0 where
  first : ℕ
  rest : ℕ
  first_is : a ≡ Some first
  rest_is : b ≡ Some rest
  is : p ≡ first * n + rest

split : (n : ℕ) (a b : Option ℕ) (p : ℕ) → joint n a b ≡ Some p → Split n a b p
split n None b p e = absurd (cc)
split n (Some x) None p e = absurd (cc)
split n (Some x) (Some y) p e = record { first = x; rest = y; first_is = refl; rest_is = refl; is = (let s : x * n + y ≡ p = cc in sym s) }

pub places_below : PlacesAreBelow
places_below [] [] p e = let s : 0 ≡ p = cc in omega arith
places_below [] (v ∷ vs) p e = absurd (cc)
places_below (d ∷ ds) [] p e = absurd (cc)
places_below (d ∷ ds) (v ∷ vs) p e =
    let s = split (elements ds) (place_in v d) (place_of ds vs) p e in
    let a = place_in-within v d s.first s.first_is in
    let b = places_below ds vs s.rest s.rest_is in
    let c : (s.first + 1) * elements ds ≤ length d * elements ds = mul-le-mul_right (elements ds) (omega arith) in
    omega (arith, s.is)

-- quotient and remainder are told apart
same_parts : (n p q r s : ℕ) → q < n → s < n → p * n + q ≡ r * n + s → (p ≡ r) × (q ≡ s)
same_parts n p q r s ql sl e = by_size p r
    (λ h. let m : (p + 1) * n ≤ r * n = mul-le-mul_right n (omega arith) in absurd (omega arith))
    (λ h. let m : p * n ≡ r * n = ap (λ x. x * n) h in (h, omega arith))
    (λ h. let m : (r + 1) * n ≤ p * n = mul-le-mul_right n (omega arith) in absurd (omega arith))

pub places_apart : PlacesAreApart
places_apart [] [] [] p e f = refl
places_apart [] [] (w ∷ ws) p e f = absurd (cc)
places_apart [] (v ∷ vs) ws p e f = absurd (cc)
places_apart (d ∷ ds) [] ws p e f = absurd (cc)
places_apart (d ∷ ds) (v ∷ vs) [] p e f = absurd (cc)
places_apart (d ∷ ds) (v ∷ vs) (w ∷ ws) p e f =
    let s = split (elements ds) (place_in v d) (place_of ds vs) p e in
    let t = split (elements ds) (place_in w d) (place_of ds ws) p f in
    let same = same_parts (elements ds) s.first s.rest t.first t.rest
    (places_below ds vs s.rest s.rest_is) (places_below ds ws t.rest t.rest_is) (sym s.is ∙ t.is) in
    let first : v ≡ w = sym (place_in-at v d s.first s.first_is) ∙ ap (value_at d) same.0 ∙ place_in-at w d t.first t.first_is in
    let rest : vs ≡ ws = places_apart ds vs ws s.rest s.rest_is (t.rest_is ∙ ap Some (sym same.1)) in
    λ i. first i ∷ rest i

pub each_number : EachNumberIsAPlace
each_number [] differ p h = ([], (let z : 0 ≡ p = omega arith in ap Some z))
each_number (d ∷ ds) differ p h =
    let n = elements ds in
    let some : 0 < n = positive n (length d) p h in
    let q : p / n < length d = quotient n (length d) p some h in
    let r : p % n < n = omega arith in
    let rest = each_number ds differ.1 (p % n) r in
    let v = value_at d (p / n) in
    (v ∷ rest.0, (λ i. joint n (place_in-found v d differ.0 (p / n) q refl i) (rest.1 i)) ∙ ap Some (whole n p some))
  where
    positive : (n m p : ℕ) → p < m * n → 0 < n
    positive zero m p h = absurd (omega arith)
    positive (suc n) m p h = omega arith

    whole : (n p : ℕ) → 0 < n → p / n * n + p % n ≡ p
    whole n p s = omega arith

    quotient : (n m p : ℕ) → 0 < n → p < m * n → p / n < m
    quotient n m p s h = by_size (p / n) m
        (λ b. b)
        (λ b. let e : p / n * n ≡ m * n = ap (λ x. x * n) b in absurd (omega (arith, whole n p s)))
        (λ b. let l : m * n ≤ p / n * n = mul-le-mul_right n (omega arith) in absurd (omega (arith, whole n p s)))
