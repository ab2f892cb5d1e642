-- Lemmas on bytes that go to a writer piece by piece.
use Rattle.std.proofs.Common.{◌≡◌, ℕ, ◌-◌, List, ◌++◌, length, take, drop, Option, None, Some, Err, sym, ap, ◌∙◌, subst, append_assoc, take-append-drop, arith}
use Rattle.std.proofs.lemmas.Grind.{common_steps}
use Rattle.std.specs.Io.KnownBytes.{Appends, Keeps}
use Rattle.std.proofs.KnownBytes.{Appends-trans, Appends-kept}
use lib.Seq.{take-append_seam}
use Rattle.opl_outside.specs.declared.error.OutsideError.TheVariants.{Failed}
use Rattle.opl_outside.specs.Written.{Puts}

-- a front of the bytes was written, and these are left
pub record Wrote (old new : Option (List ℕ)) (bytes left : List ℕ) : Type 0 where
  pub front : List ℕ
  pub whole : bytes ≡ front ++ left
  pub appended : Appends old new front

-- the writer took n bytes more
pub wrote_more : (old mid new : Option (List ℕ)) (bytes left : List ℕ) (n : ℕ) → Wrote old mid bytes left → Appends mid new (take n left) → Wrote old new bytes (drop n left)
wrote_more old mid new bytes left n w more = record {
  front = w.front ++ take n left;
  whole = w.whole ∙ ap (λ rest. w.front ++ rest) (sym (take-append-drop n left)) ∙ sym (append_assoc w.front (take n left) (drop n left));
  appended = Appends-trans old mid new w.front (take n left) w.appended more;
}

-- the same, as the rest is sliced
pub wrote_rest : (old mid new : Option (List ℕ)) (bytes left : List ℕ) (n : ℕ) → Wrote old mid bytes left → Appends mid new (take n left) → Wrote old new bytes (take (length left - n) (drop n left))
wrote_rest old mid new bytes left n w more =
    let all : drop n left ≡ take (length left - n) (drop n left) = grind (arith, common_steps) in
    subst (Wrote old new bytes) all (wrote_more old mid new bytes left n w more)

-- the writer took nothing more
pub wrote_kept : (old mid new : Option (List ℕ)) (bytes left : List ℕ) → Wrote old mid bytes left → Keeps mid new → Wrote old new bytes left
wrote_kept old mid new bytes left w kept = record { front = w.front; whole = w.whole; appended = Appends-kept old mid new w.front w.appended kept }

-- what was written by then is a prefix
pub puts_failed : (old new : Option (List ℕ)) (bytes left : List ℕ) → Wrote old new bytes left → Puts {A = Unit {0}} old new bytes (Err Failed)
puts_failed None new bytes left w = tt
puts_failed (Some x) None bytes left w = absurd w.appended
puts_failed (Some x) (Some y) bytes left w =
    (length w.front, w.appended ∙ ap (λ front. x ++ front) (sym (ap (take (length w.front)) w.whole ∙ take-append_seam w.front left)))
