-- What printing does, and what a command that came to its end answers.
use Rattle.std.specs.Prelude.{◌≡◌, ⊤, ℕ, nat_eq, ◌++◌, List, Option, Result, Ok, Err, if◌then◌else◌}
use Rattle.opl_outside.specs.Becomes.{Becomes}
use Rattle.opl_outside.specs.Counts.{Rose}
use Rattle.opl_solve.specs.Printing.{GainsFront}
use Rattle.opl_files.specs.declared.stop.Stop.{Stop}
use Rattle.opl_files.specs.declared.stop.Stop.TheVariants.{Refused, Spent, ReadFault, WriteFault, OutOfMemory}
use Rattle.opl_tool.specs.declared.answer.Answer.{Answer}
use Rattle.opl_tool.specs.declared.answer.Answer.TheVariants as answer
use Rattle.opl_tool.specs.declared.ended.Ended.{Ended}
use Rattle.opl_tool.specs.declared.ended.Ended.TheVariants.{Done, NoSolution}

-- how a search ends that was not cut, where so many solutions are shown
abbrev pub ended_with : ℕ → Ended
ended_with n = if nat_eq n 0 then NoSolution else Done

-- what a command that came to its end answers
abbrev pub Reaches : Answer → Result Ended Stop → Type 0
Reaches a (Ok Done) = a ≡ answer.Done
Reaches a (Ok NoSolution) = a ≡ answer.NoSolution
Reaches a (Err (Refused e)) = ⊤
Reaches a (Err Spent) = a ≡ answer.Spent
Reaches a (Err ReadFault) = ⊤
Reaches a (Err WriteFault) = ⊤
Reaches a (Err OutOfMemory) = ⊤

-- a command came to its end
abbrev pub IsThrough : Result Ended Stop → Type 0
IsThrough (Ok ended) = ⊤
IsThrough (Err (Refused e)) = ⊥
IsThrough (Err Spent) = ⊤
IsThrough (Err ReadFault) = ⊥
IsThrough (Err WriteFault) = ⊥
IsThrough (Err OutOfMemory) = ⊥

-- a text is printed, or a front of it where the call ends before
abbrev pub GainsBy : {A : Type 0} → Result A Stop → List ℕ → List ℕ → List ℕ → Type 0
GainsBy (Ok a) text before now = now ≡ before ++ text
GainsBy (Err (Refused e)) text before now = GainsFront before now text
GainsBy (Err Spent) text before now = now ≡ before ++ text
GainsBy (Err ReadFault) text before now = GainsFront before now text
GainsBy (Err WriteFault) text before now = GainsFront before now text
GainsBy (Err OutOfMemory) text before now = GainsFront before now text

-- only a fault of writing is counted, and printing ends early by nothing but that and want of memory
abbrev pub CountsWrite : {A : Type 0} → Result A Stop → ℕ → ℕ → Type 0
CountsWrite (Ok a) before now = now ≡ before
CountsWrite (Err (Refused r)) before now = ⊥
CountsWrite (Err Spent) before now = now ≡ before
CountsWrite (Err ReadFault) before now = ⊥
CountsWrite (Err WriteFault) before now = Rose before now
CountsWrite (Err OutOfMemory) before now = now ≡ before

-- a text is printed on a sink that told `old` and counted `before` faults
pub record PrintsStop {A : Type 0} (text : List ℕ) (old new : Option (List ℕ)) (before now : ℕ) (result : Result A Stop) : Type 0 where
  pub written : Becomes old new (GainsBy result text)
  pub faults : CountsWrite result before now
