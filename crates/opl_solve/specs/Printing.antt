-- What printing does to a sink.
use Rattle.std.specs.Prelude.{◌≡◌, ℕ, List, ◌++◌, Option, Result, Ok, Err}
use Rattle.opl_outside.specs.Becomes.{Becomes}
use Rattle.opl_outside.specs.Counts.{Counts}
use Rattle.opl_outside.specs.declared.error.OutsideError.{OutsideError}

-- the bytes have gained a front of a text
pub record GainsFront (before now text : List ℕ) : Type 0 where
  pub front : List ℕ
  pub rest : List ℕ
  pub gained : now ≡ before ++ front
  pub whole : front ++ rest ≡ text

-- the bytes have gained a text, or a front of it where printing stopped
abbrev pub GainsBy : {A : Type 0} → Result A OutsideError → List ℕ → List ℕ → List ℕ → Type 0
GainsBy (Ok a) text before now = now ≡ before ++ text
GainsBy (Err fault) text before now = GainsFront before now text

-- a text is printed on a sink that told `old` and counted `before` faults; only a fault of writing is counted
pub record Prints {A : Type 0} (text : List ℕ) (old new : Option (List ℕ)) (before now : ℕ) (result : Result A OutsideError) : Type 0 where
  pub written : Becomes old new (GainsBy result text)
  pub faults : Counts before now result
