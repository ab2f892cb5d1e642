-- Words and files come to an outcome.
use Rattle.std.proofs.Common.{◌≡◌, refl, ℕ, List, [], Option, Some, None, Ok, Err}
use Rattle.opl_faults.specs.Laws.{FormsNeverMemory, GoalsNeverMemory}
use Rattle.opl_generate.specs.Texts.{model_text}
use Rattle.opl_outside.specs.Files.{Files}
use Rattle.opl_words.specs.Requests.{Asked, request}
use Rattle.opl_words.specs.Requests.Asked.{over_files, generate, help}
use Rattle.opl_files.specs.declared.refusal.Refusal.TheVariants.{Words}
use Rattle.opl_files.specs.Held.{Loaded, Trees}
use Rattle.opl_files.specs.Reading.{Read}
use Rattle.opl_files.proofs.LoadedLemmas.{loaded_comes}
use Rattle.opl_files.proofs.ReadingOutcomes.{read_comes}
use Rattle.opl_files.proofs.StageLemmas.{Comes, then_comes}
use Rattle.opl_prepare.proofs.Some.{prepared_comes}
use Rattle.opl_prepare.specs.Data.{Prepared}
use Rattle.opl_prepare.specs.Subject.{Subject}
use Rattle.opl_tool.specs.Judged.{Named, Tasked, Answered, Judged}
use Rattle.opl_tool.specs.Laws.{OneOutcome}
use Rattle.opl_tool.specs.Tasks.{Task}
use Rattle.opl_tool.specs.Tasks.Task.{helps}
use Rattle.opl_tool.proofs.JudgedLemmas.{judged_one}

named_by : (words : List (List ℕ)) (o : Option Asked) → request words ≡ o → Comes (Named words)
named_by words (Some asked) e = (Ok asked, e)
named_by words None e = (Err Words, (refl, e))

named_comes : (words : List (List ℕ)) → Comes (Named words)
named_comes words = named_by words (request words) refl

module _ (never : FormsNeverMemory) (goals_never : GoalsNeverMemory) where
  tasked_comes : (task : Subject → Task) (trees : Trees) → Comes (Tasked task trees)
  tasked_comes task trees = then_comes (Prepared trees.0 trees.1) _ (prepared_comes never goals_never trees.0 trees.1) (λ s. (Ok (task s), refl))

  answered_comes : (files : Files) (asked : Asked) → Comes (Answered files asked)
  answered_comes files (over_files asked) = then_comes (Loaded files asked.model asked.files) _ (loaded_comes files asked.model asked.files) (tasked_comes _)
  answered_comes files (generate g) = then_comes (Read (model_text g) []) _ (read_comes (model_text g) []) (tasked_comes _)
  answered_comes files help = (Ok helps, refl)

  judged_comes : (words : List (List ℕ)) (files : Files) → Comes (Judged words files)
  judged_comes words files = then_comes (Named words) _ (named_comes words) (answered_comes files)

  pub one_outcome : OneOutcome
  one_outcome words files =
      let it = judged_comes words files in
      (it.0, it.1, λ other j. judged_one words files other it.0 j it.1)
