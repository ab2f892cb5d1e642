-- What a call answers, and what it prints.
use Rattle.std.specs.Prelude.{◌≡◌, ◌≢◌, ◌⊎◌, ℕ, List, ◌++◌, codes, Option, None, Result, Ok, Err}
use Rattle.opl_outside.specs.Becomes.{Becomes}
use Rattle.opl_outside.specs.Files.{Files}
use Rattle.opl_tool.specs.declared.answer.Answer.{Answer}
use Rattle.opl_tool.specs.declared.answer.Answer.TheVariants.{Done, NoSolution, Refused, Spent, ReadFault, WriteFault, OutOfMemory, Rejected}
use Rattle.opl_files.specs.declared.refusal.Refusal.{Refusal}
use Rattle.opl_tool.specs.declared.ended.Ended.{Ended}
use Rattle.opl_tool.specs.declared.ended.Ended.TheVariants as ended
use Rattle.opl_files.specs.declared.refusal.Refusal.TheVariants.{Words}
use Rattle.opl_files.specs.declared.stop.Stop.{Stop}
use Rattle.opl_files.specs.declared.stop.Stop.TheVariants as stops
use Rattle.opl_words.specs.Requests.{request}
use Rattle.opl_tool.specs.Ends.{Call, Ends}
use Rattle.opl_tool.specs.Judged.{Judged}
use Rattle.opl_tool.specs.Lines.{GainsLine, Tells, answer_of, stop_text}
use Rattle.opl_tool.specs.Tasks.{Task, task_answer}
use Rattle.opl_solve.specs.Printing.{GainsFront}

-- the answer of a call whose work ended so
abbrev pub Answers : Result Ended Stop → Answer → Type 0
Answers (Ok ended.Done) result = result ≡ Done
Answers (Ok ended.NoSolution) result = result ≡ NoSolution
Answers (Err stop) result = (result ≡ answer_of stop) ⊎ (result ≡ OutOfMemory)

-- the words, the file or its text have a first fault
abbrev pub IsRefused : List (List ℕ) → Files → Type 0
IsRefused words files = (refusal : Refusal) × Judged words files (Err refusal)

-- the words and files come to a task, and it has this answer
abbrev pub ComesTo : List (List ℕ) → Files → Answer → Type 0
ComesTo words files a = (task : Task) × Judged words files (Ok task) × (task_answer task ≡ a)

-- the call came through: no file failed, and no memory was wanting
abbrev pub CameThrough : Answer → Type 0
CameThrough result = (result ≢ ReadFault) × (result ≢ OutOfMemory)

-- the answers whose causes are counts of faults, and want of memory
abbrev pub IsFree : Answer → Type 0
IsFree result = (result ≡ OutOfMemory) ⊎ (result ≡ ReadFault) ⊎ (result ≡ WriteFault)

-- an answer comes only where a fact holds, and wherever it holds, unless a fault or want of memory comes first
pub record Exactly (answer : Answer) (holds : Type 0) (result : Answer) : Type 0 where
  pub only : result ≡ answer → holds
  pub always : holds → (result ≡ answer) ⊎ IsFree result

-- the sink has gained the text where the call ended, and else a front of it
abbrev pub ShownBy : Answer → List ℕ → List ℕ → List ℕ → Type 0
ShownBy Done text before now = now ≡ before ++ text
ShownBy NoSolution text before now = now ≡ before ++ text
ShownBy Refused text before now = GainsFront before now text
ShownBy Spent text before now = now ≡ before ++ text
ShownBy ReadFault text before now = GainsFront before now text
ShownBy WriteFault text before now = GainsFront before now text
ShownBy OutOfMemory text before now = GainsFront before now text
ShownBy Rejected text before now = GainsFront before now text

-- the text of a task is shown
abbrev pub Shows : Option (List ℕ) → Option (List ℕ) → List ℕ → Answer → Type 0
Shows old new text result = Becomes old new (ShownBy result text)

-- ---- how a call ended, whatever the shelf tells

-- a call whose words are none is refused for them, unless memory is wanting before
abbrev pub IsNoCall : List (List ℕ) → Result Ended Stop → Type 0
IsNoCall words r = request words ≡ None → (r ≡ Err (stops.Refused Words)) ⊎ (r ≡ Err stops.OutOfMemory)

-- what the sink of errors has gained: nothing where the work came to its end, else the line of what ended it
abbrev pub ErrBy : List (List ℕ) → Result Ended Stop → (old new : Option (List ℕ)) (before now : ℕ) → Answer → Type 0
ErrBy words (Ok ended) old new before now result = (new ≡ old) × (now ≡ before)
ErrBy words (Err stop) old new before now result = Tells old new before now (stop_text stop words) (answer_of stop) result

-- A call ended in one way, of which its answer, what is on its sinks, and the counts of faults tell.
pub record IsOutcome (words : List (List ℕ)) (call : Call) (old new : Option (List ℕ)) (before now : ℕ) (result : Answer) : Type 0 where
  pub ended : Result Ended Stop
  pub ends : Ends (Judged words) call ended
  pub no_call : IsNoCall words ended
  pub answers : Answers ended result
  pub told : ErrBy words ended old new before now result

-- beside want of memory stands nothing, or its own line
abbrev pub GainsMemoryLine : (before now : ℕ) → (x y : List ℕ) → Type 0
GainsMemoryLine before now x y = (y ≡ x) ⊎ GainsLine before now (codes "out of memory\n") x y
