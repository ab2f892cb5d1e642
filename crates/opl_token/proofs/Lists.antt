-- What std's lemmas on lists leave out.
use Rattle.std.proofs.Common.{◌≡◌, ◌≤◌, ℕ, ◌-◌, List, [], ◌∷◌, ◌++◌, length, take, drop, refl, ap, sym, ◌∙◌, arith, length-drop}
use Rattle.std.proofs.lemmas.List.{take-append-drop, take-append-le}
use Rattle.std.proofs.Math.Seq.{take-append_seam, take-length}

-- a front that is no longer than another is at the front of that
pub front_within : (text rest front back : List ℕ) → text ++ rest ≡ front ++ back → length front ≤ length text → text ≡ front ++ drop (length front) text
front_within text rest front back spelt within =
    let front_is : take (length front) text ≡ front = sym (take-append-le (length front) text rest within) ∙ ap (take (length front)) spelt ∙ take-append_seam front back in
    sym (take-append-drop (length front) text) ∙ ap (λ t. t ++ drop (length front) text) front_is

pub empty : (xs : List ℕ) → length xs ≤ 0 → xs ≡ []
empty [] h = refl
empty (x ∷ xs) h = absurd (omega arith)

-- the bytes from `at` on, as the code shows them

pub rest_of : (at : ℕ) (bytes : List ℕ) → take (length bytes - at) (drop at bytes) ≡ drop at bytes
rest_of at bytes = ap (λ n. take n (drop at bytes)) (sym (length-drop at bytes)) ∙ take-length (drop at bytes)
