-- The value of decimal digits, read from the left.
use Rattle.std.proofs.Common.{◌≡◌, ◌<◌, ◌≤◌, ℕ, pos, ◌+◌, ◌-◌, ◌*◌, ◌^◌, true, false, nat_lt, List, [], ◌∷◌, length, get_or, drop, Some, None, refl, sym, ◌∙◌, add-one, arith}
use Rattle.std.specs.List.{fold}
use Rattle.std.proofs.lemmas.Bool.{lt-ltb, le-ltb}
use Rattle.std.proofs.Math.Seq.{drop-cons}
use Rattle.opl_token.specs.Lexeme.{number}
use Rattle.opl_token.specs.Longest.{small_number}

-- the value of `digits` behind digits of the value `n`
abbrev pub number_from : ℕ → List ℕ → ℕ
number_from n digits = fold (λ value digit. 10 * value + (digit - 48)) n digits

pub number_from-grows : (n : ℕ) (digits : List ℕ) → n ≤ number_from n digits
number_from-grows n [] = omega arith
number_from-grows n (d ∷ ds) = let more : 10 * n + (d - 48) ≤ number_from (10 * n + (d - 48)) ds = number_from-grows (10 * n + (d - 48)) ds in omega arith

pub number_from-drop : (n i : ℕ) (digits : List ℕ) → i < length digits → number_from n (drop i digits) ≡ number_from (10 * n + (get_or digits i 0 - 48)) (drop (i + 1) digits)
number_from-drop n i digits h = rw (add-one, drop-cons digits i 0) refl

-- a part that is too large makes the whole too large
pub too_large : (n i : ℕ) (digits : List ℕ) → number_from n (drop i digits) ≡ number digits → 2 ^ 127 ≤ n → small_number digits ≡ None
too_large n i digits whole large =
    let grows : n ≤ number_from n (drop i digits) = number_from-grows n (drop i digits) in
    let no : nat_lt (number digits) (2 ^ 127) ≡ false = le-ltb _ _ (omega arith) in
    rw no refl

pub small : (digits : List ℕ) → number digits < 2 ^ 127 → small_number digits ≡ Some (pos (number digits))
small digits fits =
    let yes : nat_lt (number digits) (2 ^ 127) ≡ true = lt-ltb _ _ fits in
    rw yes refl

-- the same where the next digit makes the part too large
pub next_too_large : (n i : ℕ) (digits : List ℕ) → number_from n (drop i digits) ≡ number digits → i < length digits → 2 ^ 127 ≤ 10 * n + (get_or digits i 0 - 48) → small_number digits ≡ None
next_too_large n i digits whole h large =
    too_large (10 * n + (get_or digits i 0 - 48)) (i + 1) digits (sym (number_from-drop n i digits h) ∙ whole) large
