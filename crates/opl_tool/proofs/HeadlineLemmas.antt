-- From how the work of a call ends to what the call promises.
use Rattle.std.proofs.Common.{◌≡◌, ◌⊎◌, refl, sym, ap, ◌∙◌, subst, ℕ, ℤ, List, [], ◌∷◌, ◌++◌, Option, Some, None, Result, Ok, Err, IfSome, inl, inr}
use Rattle.std.proofs.lemmas.List.{append-nil}
use Rattle.opl_show.specs.declared.ending.Last.{Last}
use Rattle.opl_show.specs.declared.ending.Last.TheVariants as ends
use Rattle.opl_outside.specs.Becomes.{Becomes}
use Rattle.opl_outside.specs.Files.{Files}
use Rattle.opl_words.specs.Requests.{request}
use Rattle.opl_outside.proofs.Becomes.{becomes_same, becomes_so}
use Rattle.opl_solve.specs.Printing.{GainsFront}
use Rattle.opl_tool.specs.declared.answer.Answer.{Answer}
use Rattle.opl_tool.specs.declared.answer.Answer.TheVariants as answer
use Rattle.opl_files.specs.declared.refusal.Refusal.{Refusal}
use Rattle.opl_files.specs.declared.refusal.Refusal.TheVariants.{Words}
use Rattle.opl_tool.specs.declared.ended.Ended.{Ended}
use Rattle.opl_tool.specs.declared.ended.Ended.TheVariants.{Done, NoSolution}
use Rattle.opl_files.specs.declared.stop.Stop.{Stop}
use Rattle.opl_files.specs.declared.stop.Stop.TheVariants.{Refused, Spent, ReadFault, WriteFault, OutOfMemory}
use Rattle.opl_tool.specs.Ends.{Call, Finished, Stopped, Ends}
use Rattle.opl_tool.specs.Headline.{Answers, CameThrough, ComesTo, ErrBy, Exactly, IsFree, IsNoCall, IsRefused, Shows}
use Rattle.opl_tool.specs.Judged.{Judged}
use Rattle.opl_tool.specs.Lines.{GainsLine, Tells, answer_of, refusal_text}
use Rattle.opl_tool.specs.Tasks.{Task, TaskFinds, search_answer, task_answer, task_text}
use Rattle.opl_tool.specs.Tasks.Task.{solves, grounds, summarizes, helps}
use Rattle.opl_tool.proofs.JudgedLemmas.{judged_one}
use Rattle.opl_files.proofs.StageLemmas.{ok_no_err}

-- ---- no task is answered by a refusal

search_not_refused : (last : Last) (found : List (List ℤ)) → search_answer last found ≡ answer.Refused → ⊥
search_not_refused ends.Spent found e = absurd (cc)
search_not_refused ends.End [] e = absurd (cc)
search_not_refused ends.End (ns ∷ rest) e = absurd (cc)
search_not_refused ends.Limit [] e = absurd (cc)
search_not_refused ends.Limit (ns ∷ rest) e = absurd (cc)

task_not_refused : (t : Task) → task_answer t ≡ answer.Refused → ⊥
unfolding task_answer
task_not_refused (solves searching s) e = search_not_refused _ _ e
task_not_refused (grounds s) e = absurd (cc)
task_not_refused (summarizes g s) e = search_not_refused _ _ e
task_not_refused helps e = absurd (cc)

-- a task with this answer, a refusal, or an answer whose cause is told elsewhere
data Cause (words : List (List ℕ)) (files : Files) (a : Answer) : Type 0 where
  of_task : (t : Task) → Judged words files (Ok t) → a ≡ task_answer t → Cause words files a
  of_refusal : (e : Refusal) → Judged words files (Err e) → a ≡ answer.Refused → Cause words files a
  free : IsFree a → Cause words files a

-- ---- where the files are told

module _ (c : Call) (words : List (List ℕ)) (files : Files) where
  abbrev EndsAt : Result Ended Stop → Type 0
  EndsAt (Ok Done) = Finished (Judged words) c answer.Done files
  EndsAt (Ok NoSolution) = Finished (Judged words) c answer.NoSolution files
  EndsAt (Err (Refused e)) = (c.new ≡ c.old) × Judged words files (Err e)
  EndsAt (Err Spent) = Finished (Judged words) c answer.Spent files
  EndsAt (Err ReadFault) = c.new ≡ c.old
  EndsAt (Err WriteFault) = Stopped (Judged words) c files
  EndsAt (Err OutOfMemory) = (c.new ≡ c.old) ⊎ Stopped (Judged words) c files

  told_at : (r : Result Ended Stop) → c.files ≡ Some files → Ends (Judged words) c r → EndsAt r
  told_at (Ok Done) told e = subst (λ o. IfSome o (Finished (Judged words) c answer.Done)) told e.2
  told_at (Ok NoSolution) told e = subst (λ o. IfSome o (Finished (Judged words) c answer.NoSolution)) told e.2
  told_at (Err (Refused refusal)) told e = (e.2, subst (λ o. IfSome o (λ f. Judged words f (Err refusal))) told e.3)
  told_at (Err Spent) told e = subst (λ o. IfSome o (Finished (Judged words) c answer.Spent)) told e.2
  told_at (Err ReadFault) told e = e.2
  told_at (Err WriteFault) told e = subst (λ o. IfSome o (Stopped (Judged words) c)) told e.2
  told_at (Err OutOfMemory) told e = memory e.2
    where
      memory : ((c.new ≡ c.old) ⊎ IfSome c.files (Stopped (Judged words) c)) → (c.new ≡ c.old) ⊎ Stopped (Judged words) c files
      memory (inl same) = inl same
      memory (inr stopped) = inr (subst (λ o. IfSome o (Stopped (Judged words) c)) told stopped)

  not_both : (t : Task) (e : Refusal) → Judged words files (Ok t) → Judged words files (Err e) → ⊥
  not_both t e p q = ok_no_err t e (judged_one words files _ _ p q)

  one_task : (t u : Task) → Judged words files (Ok t) → Judged words files (Ok u) → t ≡ u
  one_task t u p q = same_task (judged_one words files _ _ p q) where
    same_task : ◌≡◌ {A = Result Task Refusal} (Ok t) (Ok u) → t ≡ u
    same_task e = cc

  -- ---- which answer comes

  finished_cause : (a b : Answer) → Finished (Judged words) c b files → a ≡ b → Cause words files a
  finished_cause a b f is = of_task f.task f.judged (is ∙ sym f.answers)

  cause_at : (r : Result Ended Stop) (a : Answer) → EndsAt r → Answers r a → Cause words files a
  cause_at (Ok Done) a s is = finished_cause a answer.Done s is
  cause_at (Ok NoSolution) a s is = finished_cause a answer.NoSolution s is
  cause_at (Err (Refused e)) a s (inl is) = of_refusal e s.1 is
  cause_at (Err Spent) a s (inl is) = finished_cause a answer.Spent s is
  cause_at (Err ReadFault) a s (inl is) = free (inr (inl is))
  cause_at (Err WriteFault) a s (inl is) = free (inr (inr is))
  cause_at (Err OutOfMemory) a s (inl is) = free (inl is)
  cause_at (Err stop) a s (inr is) = free (inl is)

  refused_by : (a : Answer) → Cause words files a → Exactly answer.Refused (IsRefused words files) a
  refused_by a (of_task t j is) = record { only = λ e. absurd (task_not_refused t (sym is ∙ e)); always = λ h. absurd (not_both t h.0 j h.1) }
  refused_by a (of_refusal e j is) = record { only = λ h. (e, j); always = λ h. inl is }
  refused_by a (free f) = record { only = λ e. absurd (unfree f e); always = λ h. inr f }
    where
      unfree : IsFree a → a ≡ answer.Refused → ⊥
      unfree (inl is) e = absurd (cc)
      unfree (inr (inl is)) e = absurd (cc)
      unfree (inr (inr is)) e = absurd (cc)

  answered_by : (b a : Answer) → (b ≡ answer.Refused → ⊥) → (IsFree b → ⊥) → Cause words files a → Exactly b (ComesTo words files b) a
  answered_by b a unrefused unfree (of_task t j is) = record {
    only = λ e. (t, j, sym is ∙ e);
    always = λ h. inl (is ∙ ap task_answer (one_task t h.0 j h.1) ∙ h.2);
  }
  answered_by b a unrefused unfree (of_refusal e j is) = record { only = λ h. absurd (unrefused (sym h ∙ is)); always = λ h. absurd (not_both h.0 e h.1 j) }
  answered_by b a unrefused unfree (free f) = record { only = λ e. absurd (unfree (subst IsFree e f)); always = λ h. inr f }

  -- ---- what is printed

  -- what is written where a task's text stands in place of the one it came with
  same_text : (t u : Task) (P : List ℕ → List ℕ → List ℕ → Type 0) → t ≡ u → Becomes c.old c.new (λ x y. P x y (task_text t)) → Becomes c.old c.new (λ x y. P x y (task_text u))
  same_text t u P same h = subst (λ k. Becomes c.old c.new (λ x y. P x y (task_text k))) same h

  -- nothing is written
  nothing_shown : (text : List ℕ) → c.new ≡ c.old → Becomes c.old c.new (λ x y. GainsFront x y text)
  nothing_shown text same = subst (λ o. Becomes c.old o (λ x y. GainsFront x y text)) (sym same)
      (becomes_same c.old _ (λ x. record { front = []; rest = text; gained = sym (append-nil x); whole = refl }))

  -- the whole is a front of itself
  whole_front : (text : List ℕ) → Becomes c.old c.new (λ x y. y ≡ x ++ text) → Becomes c.old c.new (λ x y. GainsFront x y text)
  whole_front text h = becomes_so c.old c.new _ _ (λ x y e. record { front = text; rest = []; gained = e; whole = append-nil text }) h

  memory_shows : (a : Answer) (text : List ℕ) → a ≡ answer.OutOfMemory → Becomes c.old c.new (λ x y. GainsFront x y text) → Shows c.old c.new text a
  memory_shows a text is h = rw is h

  finished_text : (b : Answer) (u : Task) → Finished (Judged words) c b files → Judged words files (Ok u) → Becomes c.old c.new (λ x y. y ≡ x ++ task_text u)
  finished_text b u f j = same_text f.task u (λ x y t. y ≡ x ++ t) (one_task f.task u f.judged j) f.written

  stopped_text : (u : Task) → Stopped (Judged words) c files → Judged words files (Ok u) → Becomes c.old c.new (λ x y. GainsFront x y (task_text u))
  stopped_text u s j = same_text s.task u (λ x y t. GainsFront x y t) (one_task s.task u s.judged j) s.written

  shown_at : (r : Result Ended Stop) (a : Answer) → EndsAt r → Answers r a → (u : Task) → Judged words files (Ok u) → Shows c.old c.new (task_text u) a
  shown_at (Ok Done) a s is u j = rw is (finished_text _ u s j)
  shown_at (Ok NoSolution) a s is u j = rw is (finished_text _ u s j)
  shown_at (Err (Refused e)) a s is u j = absurd (not_both u e j s.1)
  shown_at (Err Spent) a s (inl is) u j = rw is (finished_text _ u s j)
  shown_at (Err Spent) a s (inr is) u j = memory_shows a (task_text u) is (whole_front (task_text u) (finished_text _ u s j))
  shown_at (Err ReadFault) a s (inl is) u j = rw is (nothing_shown (task_text u) s)
  shown_at (Err ReadFault) a s (inr is) u j = memory_shows a (task_text u) is (nothing_shown (task_text u) s)
  shown_at (Err WriteFault) a s (inl is) u j = rw is (stopped_text u s j)
  shown_at (Err WriteFault) a s (inr is) u j = memory_shows a (task_text u) is (stopped_text u s j)
  shown_at (Err OutOfMemory) a (inl s) is u j = memory_shows a (task_text u) (either is) (nothing_shown (task_text u) s)
    where
      either : ((a ≡ answer.OutOfMemory) ⊎ (a ≡ answer.OutOfMemory)) → a ≡ answer.OutOfMemory
      either (inl e) = e
      either (inr e) = e
  shown_at (Err OutOfMemory) a (inr s) is u j = memory_shows a (task_text u) (either is) (stopped_text u s j)
    where
      either : ((a ≡ answer.OutOfMemory) ⊎ (a ≡ answer.OutOfMemory)) → a ≡ answer.OutOfMemory
      either (inl e) = e
      either (inr e) = e

  silent_at : (r : Result Ended Stop) → EndsAt r → (e : Refusal) → Judged words files (Err e) → c.new ≡ c.old
  silent_at (Ok Done) s e j = absurd (not_both s.task e s.judged j)
  silent_at (Ok NoSolution) s e j = absurd (not_both s.task e s.judged j)
  silent_at (Err (Refused f)) s e j = s.0
  silent_at (Err Spent) s e j = absurd (not_both s.task e s.judged j)
  silent_at (Err ReadFault) s e j = s
  silent_at (Err WriteFault) s e j = absurd (not_both s.task e s.judged j)
  silent_at (Err OutOfMemory) (inl s) e j = s
  silent_at (Err OutOfMemory) (inr s) e j = absurd (not_both s.task e s.judged j)

  -- ---- what a search finds

  finds_as : (t u : Task) → TaskFinds t → t ≡ u → TaskFinds u
  finds_as t u h same = subst (λ (k : Task). TaskFinds k) same h

  finds_at : (r : Result Ended Stop) (a : Answer) → EndsAt r → Answers r a → CameThrough a → (u : Task) → Judged words files (Ok u) → TaskFinds u
  finds_at (Ok Done) a s is through u j = finds_as s.task u s.finds (one_task s.task u s.judged j)
  finds_at (Ok NoSolution) a s is through u j = finds_as s.task u s.finds (one_task s.task u s.judged j)
  finds_at (Err (Refused e)) a s is through u j = absurd (not_both u e j s.1)
  finds_at (Err Spent) a s is through u j = finds_as s.task u s.finds (one_task s.task u s.judged j)
  finds_at (Err ReadFault) a s (inl is) through u j = absurd (through.0 is)
  finds_at (Err ReadFault) a s (inr is) through u j = absurd (through.1 is)
  finds_at (Err WriteFault) a s is through u j = finds_as s.task u s.finds (one_task s.task u s.judged j)
  finds_at (Err OutOfMemory) a s (inl is) through u j = absurd (through.1 is)
  finds_at (Err OutOfMemory) a s (inr is) through u j = absurd (through.1 is)

  -- ---- what is told

  module _ (old new : Option (List ℕ)) (before now : ℕ) (a : Answer) where
    -- a refusal of the call, told by its line
    abbrev Told : Type 0
    Told = (e : Refusal) × Judged words files (Err e) × Becomes old new (GainsLine before now (refusal_text e words))

    line_by : (e : Refusal) → Tells old new before now (refusal_text e words) answer.Refused a → a ≡ answer.Refused → Becomes old new (GainsLine before now (refusal_text e words))
    line_by e (inl told) refused = told.1
    line_by e (inr none) refused = let no : answer.OutOfMemory ≡ answer.Refused = sym none.0 ∙ refused in absurd (cc)

    line_at : (r : Result Ended Stop) → EndsAt r → Answers r a → ErrBy words r old new before now a → a ≡ answer.Refused → Told
    line_at (Ok Done) s is told refused = absurd (cc)
    line_at (Ok NoSolution) s is told refused = absurd (cc)
    line_at (Err (Refused f)) s is told refused = (f, s.1, line_by f told refused)
    line_at (Err Spent) s (inl is) told refused = absurd (cc)
    line_at (Err Spent) s (inr is) told refused = absurd (cc)
    line_at (Err ReadFault) s (inl is) told refused = absurd (cc)
    line_at (Err ReadFault) s (inr is) told refused = absurd (cc)
    line_at (Err WriteFault) s (inl is) told refused = absurd (cc)
    line_at (Err WriteFault) s (inr is) told refused = absurd (cc)
    line_at (Err OutOfMemory) s (inl is) told refused = absurd (cc)
    line_at (Err OutOfMemory) s (inr is) told refused = absurd (cc)

-- a fact for the files, if they are told
with_told : (o : Option Files) (P : Files → Type 0) → ((files : Files) → o ≡ Some files → P files) → IfSome o P
with_told None P all = tt
with_told (Some files) P all = all files refl

done_unrefused : answer.Done ≡ answer.Refused → ⊥
done_unrefused e = absurd (cc)

done_unfree : IsFree answer.Done → ⊥
done_unfree (inl e) = absurd (cc)
done_unfree (inr (inl e)) = absurd (cc)
done_unfree (inr (inr e)) = absurd (cc)

unsolved_unrefused : answer.NoSolution ≡ answer.Refused → ⊥
unsolved_unrefused e = absurd (cc)

unsolved_unfree : IsFree answer.NoSolution → ⊥
unsolved_unfree (inl e) = absurd (cc)
unsolved_unfree (inr (inl e)) = absurd (cc)
unsolved_unfree (inr (inr e)) = absurd (cc)

spent_unrefused : answer.Spent ≡ answer.Refused → ⊥
spent_unrefused e = absurd (cc)

spent_unfree : IsFree answer.Spent → ⊥
spent_unfree (inl e) = absurd (cc)
spent_unfree (inr (inl e)) = absurd (cc)
spent_unfree (inr (inr e)) = absurd (cc)

module _ (words : List (List ℕ)) (c : Call) (r : Result Ended Stop) (a : Answer) (ends : Ends (Judged words) c r) (is : Answers r a) where
  at : (files : Files) → c.files ≡ Some files → EndsAt c words files r
  at files told = told_at c words files r told ends

  cause : (files : Files) → c.files ≡ Some files → Cause words files a
  cause files told = cause_at c words files r a (at files told) is

  pub refused-exactly : IfSome c.files (λ files. Exactly answer.Refused (IsRefused words files) a)
  refused-exactly = with_told c.files _ (λ files told. refused_by c words files a (cause files told))

  pub done-exactly : IfSome c.files (λ files. Exactly answer.Done (ComesTo words files answer.Done) a)
  done-exactly = with_told c.files _ (λ files told. answered_by c words files answer.Done a done_unrefused done_unfree (cause files told))

  pub unsolved-exactly : IfSome c.files (λ files. Exactly answer.NoSolution (ComesTo words files answer.NoSolution) a)
  unsolved-exactly = with_told c.files _ (λ files told. answered_by c words files answer.NoSolution a unsolved_unrefused unsolved_unfree (cause files told))

  pub spent-exactly : IfSome c.files (λ files. Exactly answer.Spent (ComesTo words files answer.Spent) a)
  spent-exactly = with_told c.files _ (λ files told. answered_by c words files answer.Spent a spent_unrefused spent_unfree (cause files told))

  pub shows-text : IfSome c.files (λ files. (t : Task) → Judged words files (Ok t) → Shows c.old c.new (task_text t) a)
  shows-text = with_told c.files _ (λ files told. shown_at c words files r a (at files told) is)

  pub finds-so : IfSome c.files (λ files. CameThrough a → (t : Task) → Judged words files (Ok t) → TaskFinds t)
  finds-so = with_told c.files _ (λ files told through t j. finds_at c words files r a (at files told) is through t j)

  pub shows-nothing : IfSome c.files (λ files. (e : Refusal) → Judged words files (Err e) → c.new ≡ c.old)
  shows-nothing = with_told c.files _ (λ files told. silent_at c words files r (at files told))

  pub tells-refusal : (old new : Option (List ℕ)) (before now : ℕ) → ErrBy words r old new before now a →
      IfSome c.files (λ files. a ≡ answer.Refused → (e : Refusal) × Judged words files (Err e) × Becomes old new (GainsLine before now (refusal_text e words)))
  tells-refusal old new before now told_line = with_told c.files _ (λ files told. line_at c words files old new before now a r (at files told) is told_line)

-- words that are no call
pub no-call-answers : (words : List (List ℕ)) (r : Result Ended Stop) (a : Answer) → IsNoCall words r → Answers r a → request words ≡ None → (a ≡ answer.Refused) ⊎ (a ≡ answer.OutOfMemory)
no-call-answers words r a no_call is none = by (no_call none)
  where
    by_answers : (stop : Stop) → r ≡ Err stop → (a ≡ answer_of stop) ⊎ (a ≡ answer.OutOfMemory)
    by_answers stop e = subst (λ (x : Result Ended Stop). Answers x a) e is

    by_memory : ((a ≡ answer.OutOfMemory) ⊎ (a ≡ answer.OutOfMemory)) → a ≡ answer.OutOfMemory
    by_memory (inl e) = e
    by_memory (inr e) = e

    by : ((r ≡ Err (Refused Words)) ⊎ (r ≡ Err OutOfMemory)) → (a ≡ answer.Refused) ⊎ (a ≡ answer.OutOfMemory)
    by (inl e) = by_answers (Refused Words) e
    by (inr e) = inr (by_memory (by_answers OutOfMemory e))
