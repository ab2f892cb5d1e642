-- What a sink has taken.
use Rattle.std.specs.Prelude.{◌≡◌, ℕ, List, ◌++◌, take, Option, Result, Ok, Err}
use Rattle.opl_outside.specs.Becomes.{Becomes}
use Rattle.opl_outside.specs.declared.error.OutsideError.{OutsideError}
use Rattle.opl_outside.specs.declared.error.OutsideError.TheVariants.{Failed, OutOfMemory}

-- what putting a piece has done to the bytes written so far, by how the call ended
abbrev pub PutsBy : {A : Type 0} → Result A OutsideError → List ℕ → List ℕ → List ℕ → Type 0
PutsBy (Ok x) piece before now = now ≡ before ++ piece
PutsBy (Err Failed) piece before now = (n : ℕ) × (now ≡ before ++ take n piece)
PutsBy (Err OutOfMemory) piece before now = now ≡ before

-- the bytes written have gained the piece; where the call failed, a prefix of it
abbrev pub Puts : {A : Type 0} → Option (List ℕ) → Option (List ℕ) → List ℕ → Result A OutsideError → Type 0
Puts old new piece result = Becomes old new (PutsBy result piece)
