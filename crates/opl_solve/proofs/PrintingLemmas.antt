-- Text behind text, and fronts of texts.
use Rattle.std.proofs.Common.{◌≡◌, refl, sym, ap, ◌∙◌, subst, ℕ, List, [], ◌++◌, take, drop, append_assoc, Option, Some, None, Result, Ok, Err}
use Rattle.std.proofs.lemmas.List.{append-nil, take-append-drop}
use Rattle.opl_outside.proofs.Becomes.{becomes_same, becomes_so, becomes_then}
use Rattle.opl_outside.specs.Becomes.{Becomes}
use Rattle.opl_outside.specs.Written.{Puts}
use Rattle.opl_outside.specs.Counts.{Counts}
use Rattle.opl_outside.specs.declared.error.OutsideError.{OutsideError}
use Rattle.opl_outside.specs.declared.error.OutsideError.TheVariants.{Failed, OutOfMemory}
use Rattle.opl_solve.specs.Printing.{GainsFront, Prints}

-- a piece whose front was written
pub front_put : (piece before now : List ℕ) → (n : ℕ) × (now ≡ before ++ take n piece) → GainsFront before now piece
front_put piece before now p = record { front = take p.0 piece; rest = drop p.0 piece; gained = p.1; whole = take-append-drop p.0 piece }

no_front : (piece before now : List ℕ) → now ≡ before → GainsFront before now piece
no_front piece before now e = record { front = []; rest = piece; gained = e ∙ sym (append-nil before); whole = refl }

-- a `put`, as printing tells of it
pub put-prints : {A : Type 0} (piece : List ℕ) (old new : Option (List ℕ)) (before now : ℕ) (result : Result A OutsideError) → Puts old new piece result →
    Counts before now result → Prints piece old new before now result
put-prints piece old new before now (Ok a) p c = record { written = p; faults = c }
put-prints piece old new before now (Err Failed) p c = record { written = becomes_so old new _ _ (front_put piece) p; faults = c }
put-prints piece old new before now (Err OutOfMemory) p c = record { written = becomes_so old new _ _ (no_front piece) p; faults = c }

-- nothing is printed where memory is wanting before
pub prints-nothing : {A : Type 0} (text : List ℕ) (o : Option (List ℕ)) (f : ℕ) → Prints {A = A} text o o f f (Err OutOfMemory)
prints-nothing text o f = record { written = becomes_same o _ (λ x. no_front text x x refl); faults = refl }

gains_then : (t u x y z : List ℕ) → y ≡ x ++ t → z ≡ y ++ u → z ≡ x ++ (t ++ u)
gains_then t u x y z e f = f ∙ ap (λ s. s ++ u) e ∙ append_assoc x t u

front_then : (t u x y z : List ℕ) → y ≡ x ++ t → GainsFront y z u → GainsFront x z (t ++ u)
front_then t u x y z e g = record {
  front = t ++ g.front;
  rest = g.rest;
  gained = gains_then t g.front x y z e g.gained;
  whole = append_assoc t g.front g.rest ∙ ap (λ s. t ++ s) g.whole;
}

front_more : (t u x y : List ℕ) → GainsFront x y t → GainsFront x y (t ++ u)
front_more t u x y g = record {
  front = g.front;
  rest = g.rest ++ u;
  gained = g.gained;
  whole = sym (append_assoc g.front g.rest u) ∙ ap (λ s. s ++ u) g.whole;
}

pub same_stop : (A B : Type 0) (stop : OutsideError) (before now : ℕ) → Counts {A = A} before now (Err stop) → Counts {A = B} before now (Err stop)
same_stop A B Failed before now c = c
same_stop A B OutOfMemory before now c = c

pub counts_after : (A : Type 0) (stop : OutsideError) (before between now : ℕ) → between ≡ before → Counts {A = A} between now (Err stop) → Counts {A = A} before now (Err stop)
counts_after A stop before between now e c = subst (λ (count : ℕ). Counts {A = A} count now (Err stop)) e c

-- one text behind another
module _ (t u : List ℕ) (old mid new : Option (List ℕ)) (before between now : ℕ) where
  pub prints-both : {A B C : Type 0} (a : A) (b : B) (c : C) → Prints t old mid before between (Ok a) → Prints u mid new between now (Ok b) →
      Prints (t ++ u) old new before now (Ok c)
  prints-both a b c p q = record {
    written = becomes_then old mid new _ _ _ (gains_then t u) p.written q.written;
    faults = q.faults ∙ p.faults;
  }

  pub prints-second : {A B C : Type 0} (a : A) (stop : OutsideError) → Prints {A = A} t old mid before between (Ok a) →
      Prints {A = B} u mid new between now (Err stop) → Prints {A = C} (t ++ u) old new before now (Err stop)
  prints-second {B = B} {C = C} a stop p q = record {
    written = becomes_then old mid new _ _ _ (front_then t u) p.written q.written;
    faults = counts_after C stop before between now p.faults (same_stop B C stop between now q.faults);
  }

pub prints-first : {A C : Type 0} (t u : List ℕ) (old new : Option (List ℕ)) (before now : ℕ) (stop : OutsideError) →
    Prints {A = A} t old new before now (Err stop) → Prints {A = C} (t ++ u) old new before now (Err stop)
prints-first {A = A} {C = C} t u old new before now stop p = record {
  written = becomes_so old new _ _ (front_more t u) p.written;
  faults = same_stop A C stop before now p.faults;
}

-- the same text, whatever else the answer is
pub prints-as : {A B : Type 0} (t : List ℕ) (old new : Option (List ℕ)) (before now : ℕ) (a : A) (b : B) → Prints t old new before now (Ok a) → Prints t old new before now (Ok b)
prints-as t old new before now a b p = record { written = p.written; faults = p.faults }

pub stops-as : {A B : Type 0} (t : List ℕ) (old new : Option (List ℕ)) (before now : ℕ) (stop : OutsideError) → Prints {A = A} t old new before now (Err stop) →
    Prints {A = B} t old new before now (Err stop)
stops-as {A = A} {B = B} t old new before now stop p = record { written = p.written; faults = same_stop A B stop before now p.faults }
