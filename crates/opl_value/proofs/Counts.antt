-- The number of keys, dimension after dimension.
use Rattle.std.proofs.Common.{◌≡◌, ℕ, suc, ◌*◌, ◌≤◌, true, false, List, [], ◌∷◌, length, sym, ap, ◌∙◌, arith, true≢false}
use Rattle.std.proofs.Math.Nat.{mul-le-mul_left, mul-le-mul_right}
use Rattle.std.specs.List.{list_any}
use Rattle.opl_value.specs.declared.value.Value.{Value}
use Rattle.opl_value.specs.Places.{elements, has_none}
use Rattle.opl_value.proofs.Joint.{behind-first, elements-filled, first-filled, others-filled}

-- there are no keys where a dimension is empty
pub elements-none : (ds : List (List Value)) → list_any has_none ds ≡ true → elements ds ≡ 0
elements-none [] h = absurd (true≢false (sym h))
elements-none ([] ∷ ds) h = omega arith
elements-none ((v ∷ vs) ∷ ds) h = let e = elements-none ds (sym (behind-first v vs ds) ∙ h) in ap (λ n. suc (length vs) * n) e ∙ (omega arith)

-- where no dimension is empty, no dimension has more values than there are keys
pub first-within : (d : List Value) (ds : List (List Value)) → list_any has_none (d ∷ ds) ≡ false → length d ≤ elements (d ∷ ds)
first-within d ds filled =
    let more : length d * 1 ≤ length d * elements ds = mul-le-mul_left (length d) (elements-filled ds (others-filled d ds filled)) in
    omega arith

-- nor do the others have more keys
pub others-within : (d : List Value) (ds : List (List Value)) → list_any has_none (d ∷ ds) ≡ false → elements ds ≤ elements (d ∷ ds)
others-within d ds filled =
    let more : 1 * elements ds ≤ length d * elements ds = mul-le-mul_right (elements ds) (first-filled d ds filled) in
    omega arith

-- nor has a dimension more values than a number that isn't 0 times the keys
pub times-within : (found : ℕ) (d : List Value) (ds : List (List Value)) → 1 ≤ found → list_any has_none (d ∷ ds) ≡ false → length d ≤ found * elements (d ∷ ds)
times-within found d ds l filled =
    let more : 1 * elements (d ∷ ds) ≤ found * elements (d ∷ ds) = mul-le-mul_right (elements (d ∷ ds)) l in
    let first = first-within d ds filled in
    omega arith
