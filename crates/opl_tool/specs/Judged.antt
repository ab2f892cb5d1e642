-- What the words and files of a call come to: its task, or the first refusal.
use Rattle.std.specs.Prelude.{◌≡◌, ℕ, List, [], Some, None, Ok, Err}
use Rattle.opl_outside.specs.Files.{Files}
use Rattle.opl_generate.specs.Texts.{model_text}
use Rattle.opl_words.specs.Requests.{Asked, request}
use Rattle.opl_words.specs.Requests.Asked.{over_files, generate, help}
use Rattle.opl_files.specs.Held.{Loaded, Trees}
use Rattle.opl_files.specs.Reading.{Read}
use Rattle.opl_files.specs.Stage.{Stage, Then, Only}
use Rattle.opl_files.specs.declared.refusal.Refusal.TheVariants.{Words}
use Rattle.opl_prepare.specs.Data.{Prepared}
use Rattle.opl_prepare.specs.Subject.{Subject}
use Rattle.opl_tool.specs.Tasks.{Task, task_of}
use Rattle.opl_tool.specs.Tasks.Task.{summarizes, helps}

-- what the words ask for
abbrev pub Named : List (List ℕ) → Stage Asked
Named given (Ok asked) = request given ≡ Some asked
Named given (Err e) = (e ≡ Words) × (request given ≡ None)

-- the task over these trees, once they are ready: what does not run yet comes first, and then the data
abbrev pub Tasked : (Subject → Task) → Trees → Stage Task
Tasked task trees = Then (Prepared trees.0 trees.1) (λ s. Only (task s))

-- the task that is asked for
abbrev pub Answered : Files → Asked → Stage Task
Answered files (over_files asked) = Then (Loaded files asked.model asked.files) (Tasked (task_of asked.command))
Answered files (generate g) = Then (Read (model_text g) []) (Tasked (summarizes g))
Answered files help = Only helps

-- the task of a call: its words come first
abbrev pub Judged : List (List ℕ) → Files → Stage Task
Judged given files = Then (Named given) (Answered files)
