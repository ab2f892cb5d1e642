-- How the work of a call ends, before anything is told on the sink of errors.
use Rattle.std.specs.Prelude.{◌≡◌, ◌⊎◌, ℕ, List, ◌++◌, Option, Result, Ok, Err, IfSome}
use Rattle.opl_outside.specs.Becomes.{Becomes}
use Rattle.opl_outside.specs.Counts.{Rose}
use Rattle.opl_outside.specs.Files.{Files}
use Rattle.opl_solve.specs.Printing.{GainsFront}
use Rattle.opl_tool.specs.declared.answer.Answer.{Answer}
use Rattle.opl_tool.specs.declared.answer.Answer.TheVariants as answer
use Rattle.opl_tool.specs.declared.ended.Ended.{Ended}
use Rattle.opl_tool.specs.declared.ended.Ended.TheVariants.{Done, NoSolution}
use Rattle.opl_files.specs.declared.stop.Stop.{Stop}
use Rattle.opl_files.specs.declared.stop.Stop.TheVariants.{Refused, Spent, ReadFault, WriteFault, OutOfMemory}
use Rattle.opl_files.specs.Stage.{Stage}
use Rattle.opl_tool.specs.Tasks.{Task, TaskFinds, task_answer, task_text}

-- what is seen of a call: the files that are told, what is written before and after it, and the counts of faults
pub record Call : Type 0 where
  pub files : Option Files
  pub old : Option (List ℕ)
  pub new : Option (List ℕ)
  pub reads_before : ℕ
  pub reads_now : ℕ
  pub faults_before : ℕ
  pub faults_now : ℕ

-- Of a call that comes to this with its files: the task's whole text is written, and this is its answer.
pub record Finished (comes : Files → Stage Task) (c : Call) (a : Answer) (files : Files) : Type 0 where
  pub task : Task
  pub judged : comes files (Ok task)
  pub finds : TaskFinds task
  pub answers : task_answer task ≡ a
  pub written : Becomes c.old c.new (λ before now. now ≡ before ++ task_text task)

-- a front of the task's text is written
pub record Stopped (comes : Files → Stage Task) (c : Call) (files : Files) : Type 0 where
  pub task : Task
  pub judged : comes files (Ok task)
  pub finds : TaskFinds task
  pub written : Becomes c.old c.new (λ before now. GainsFront before now (task_text task))

-- how the work of a call ends
abbrev pub Ends : (Files → Stage Task) → Call → Result Ended Stop → Type 0
Ends comes c (Ok Done) = (c.reads_now ≡ c.reads_before) × (c.faults_now ≡ c.faults_before) × IfSome c.files (Finished comes c answer.Done)
Ends comes c (Ok NoSolution) = (c.reads_now ≡ c.reads_before) × (c.faults_now ≡ c.faults_before) × IfSome c.files (Finished comes c answer.NoSolution)
Ends comes c (Err (Refused e)) =
    (c.reads_now ≡ c.reads_before) × (c.faults_now ≡ c.faults_before) × (c.new ≡ c.old) × IfSome c.files (λ files. comes files (Err e))
Ends comes c (Err Spent) = (c.reads_now ≡ c.reads_before) × (c.faults_now ≡ c.faults_before) × IfSome c.files (Finished comes c answer.Spent)
Ends comes c (Err ReadFault) = Rose c.reads_before c.reads_now × (c.faults_now ≡ c.faults_before) × (c.new ≡ c.old)
Ends comes c (Err WriteFault) = (c.reads_now ≡ c.reads_before) × Rose c.faults_before c.faults_now × IfSome c.files (Stopped comes c)
Ends comes c (Err OutOfMemory) =
    (c.reads_now ≡ c.reads_before) × (c.faults_now ≡ c.faults_before) × ((c.new ≡ c.old) ⊎ IfSome c.files (Stopped comes c))
