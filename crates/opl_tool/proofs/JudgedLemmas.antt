-- What a call comes to, stage by stage: at most one outcome.
use Rattle.std.proofs.Common.{◌≡◌, sym, ap, ◌∙◌, ℕ, List, [], Some, None, Ok, Err, inl}
use Rattle.opl_generate.specs.Texts.{model_text}
use Rattle.opl_outside.specs.Files.{Files}
use Rattle.opl_words.specs.Requests.{Asked}
use Rattle.opl_words.specs.Requests.Asked.{over_files, generate, help}
use Rattle.opl_files.specs.Held.{Loaded, Trees}
use Rattle.opl_files.specs.Reading.{Read}
use Rattle.opl_files.proofs.LoadedLemmas.{loaded_one}
use Rattle.opl_files.proofs.ReadingLemmas.{read_one}
use Rattle.opl_files.proofs.StageLemmas.{IsOne, only_one, then_one}
use Rattle.opl_prepare.proofs.Single.{prepared_one}
use Rattle.opl_prepare.specs.Data.{Prepared}
use Rattle.opl_prepare.specs.Subject.{Subject}
use Rattle.opl_tool.specs.Judged.{Named, Tasked, Answered, Judged}
use Rattle.opl_tool.specs.Tasks.{Task}

named_one : (words : List (List ℕ)) → IsOne (Named words)
named_one words (Ok asked) (Ok other) p q = let e : Some asked ≡ Some other = sym p ∙ q in let same : asked ≡ other = cc in ap Ok same
named_one words (Ok asked) (Err e) p q = let no : Some asked ≡ None = sym p ∙ q.1 in absurd (cc)
named_one words (Err e) (Ok asked) p q = let no : Some asked ≡ None = sym q ∙ p.1 in absurd (cc)
named_one words (Err e) (Err f) p q = ap Err (p.0 ∙ sym q.0)

tasked_one : (task : Subject → Task) (trees : Trees) → IsOne (Tasked task trees)
tasked_one task trees = then_one (Prepared trees.0 trees.1) _ (prepared_one trees.0 trees.1) (λ s. only_one _)

answered_one : (files : Files) (asked : Asked) → IsOne (Answered files asked)
answered_one files (over_files asked) = then_one (Loaded files asked.model asked.files) _ (loaded_one files asked.model asked.files) (tasked_one _)
answered_one files (generate g) = then_one (Read (model_text g) []) _ (read_one (model_text g) []) (tasked_one _)
answered_one files help = only_one _

-- words and files come to at most one outcome
pub judged_one : (words : List (List ℕ)) (files : Files) → IsOne (Judged words files)
judged_one words files = then_one (Named words) _ (named_one words) (answered_one files)
