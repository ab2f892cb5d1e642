-- How the work of a call ends, stage by stage.
use Rattle.std.proofs.Common.{◌≡◌, refl, sym, ap, subst, ℕ, false, List, [], Option, Some, None, Result, Ok, Err, IfSome, inl, inr}
use Rattle.opl_generate.specs.Texts.{model_text}
use Rattle.opl_outside.specs.Files.{Files}
use Rattle.opl_words.specs.declared.call.Command.{Command}
use Rattle.opl_words.specs.declared.call.Command.TheVariants.{Solve, Ground}
use Rattle.opl_words.specs.declared.call.Generated.{Generated}
use Rattle.opl_words.specs.Requests.{Asked, default_budget, request}
use Rattle.opl_words.specs.Requests.Asked.{generate}
use Rattle.opl_trace.specs.Marks.{core_trace}
use Rattle.opl_files.specs.declared.front.Front.{Front}
use Rattle.opl_files.specs.declared.refusal.Refusal.{Refusal}
use Rattle.opl_files.specs.declared.stop.Stop.{Stop}
use Rattle.opl_files.specs.declared.stop.Stop.TheVariants.{Refused, Spent, ReadFault, WriteFault, OutOfMemory}
use Rattle.opl_files.specs.Held.{Trees}
use Rattle.opl_files.specs.Reading.{Read, front_of}
use Rattle.opl_files.specs.Stage.{Stage, Then, Gives, GivesRead, CountsRead}
use Rattle.opl_files.proofs.StageLemmas.{if_some}
use Rattle.opl_prepare.specs.Data.{Prepared}
use Rattle.opl_prepare.specs.Prepared.{GivesPosed, Poses, enumerations_in}
use Rattle.opl_prepare.specs.Subject.{Subject}
use Rattle.opl_prepare.specs.declared.problem.Problem.{Problem}
use Rattle.opl_tool.specs.declared.answer.Answer.{Answer}
use Rattle.opl_tool.specs.declared.answer.Answer.TheVariants as answer
use Rattle.opl_tool.specs.declared.ended.Ended.{Ended}
use Rattle.opl_tool.specs.declared.ended.Ended.TheVariants.{Done, NoSolution}
use Rattle.opl_tool.specs.Ends.{Call, Finished, Stopped, Ends}
use Rattle.opl_tool.specs.Help.{help_text}
use Rattle.opl_tool.specs.Judged.{Answered, Judged, Tasked}
use Rattle.opl_tool.specs.Printed.{PrintsStop, Reaches}
use Rattle.opl_tool.specs.Tasks.{Task, TaskFinds, command_answer, command_text, made_text, task_answer, task_of, task_text, trace_answer}
use Rattle.opl_tool.specs.Tasks.Task.{summarizes, helps}
use Rattle.opl_tool.proofs.FindsLemmas.{command_finds, made_finds}

pub if_all : {A : Type 0} (o : Option A) (P : A → Type 0) → ((a : A) → P a) → IfSome o P
if_all None P all = tt
if_all (Some a) P all = all a

-- a text of a task was printed, or a front of it
module _ (J : Files → Stage Task) (c : Call) (task : Task) (judged : IfSome c.files (λ files. J files (Ok task))) (finds : TaskFinds task) (reads : c.reads_now ≡ c.reads_before) where
  ended : (r : Result Ended Stop) → PrintsStop (task_text task) c.old c.new c.faults_before c.faults_now r → Reaches (task_answer task) r → Ends J c r
  ended (Ok Done) w a = (reads, w.faults, if_some c.files _ _ (λ files j. record { task = task; judged = j; finds = finds; answers = a; written = w.written }) judged)
  ended (Ok NoSolution) w a = (reads, w.faults, if_some c.files _ _ (λ files j. record { task = task; judged = j; finds = finds; answers = a; written = w.written }) judged)
  ended (Err (Refused e)) w a = absurd w.faults
  ended (Err Spent) w a = (reads, w.faults, if_some c.files _ _ (λ files j. record { task = task; judged = j; finds = finds; answers = a; written = w.written }) judged)
  ended (Err ReadFault) w a = absurd w.faults
  ended (Err WriteFault) w a = (reads, w.faults, if_some c.files _ _ (λ files j. record { task = task; judged = j; finds = finds; written = w.written }) judged)
  ended (Err OutOfMemory) w a = (reads, w.faults, inr (if_some c.files _ _ (λ files j. record { task = task; judged = j; finds = finds; written = w.written }) judged))

  ended_as : (text : List ℕ) (b : Answer) (r : Result Ended Stop) → text ≡ task_text task → b ≡ task_answer task → PrintsStop text c.old c.new c.faults_before c.faults_now r → Reaches b r → Ends J c r
  ended_as text b r same also printed reached =
      ended r (subst (λ (t : List ℕ). PrintsStop t c.old c.new c.faults_before c.faults_now r) same printed) (subst (λ (x : Answer). Reaches x r) also reached)

-- ---- over trees

module _ (task : Subject → Task) (c : Call) (trees : Trees) where
  -- what the call is about was not prepared
  pub problem-ended : (stop : Stop) → c.new ≡ c.old → c.faults_now ≡ c.faults_before → c.reads_now ≡ c.reads_before → GivesPosed (Prepared trees.0 trees.1) (Err stop) →
      Ends (λ files. Tasked task trees) c (Err stop)
  problem-ended (Refused e) same faults reads posed = (reads, faults, same, if_all c.files _ (λ files. inr (e, posed, refl)))
  problem-ended Spent same faults reads posed = absurd posed
  problem-ended ReadFault same faults reads posed = absurd posed
  problem-ended WriteFault same faults reads posed = absurd posed
  problem-ended OutOfMemory same faults reads posed = (reads, faults, inl same)

  -- the text was printed, or a front of it
  text_ended : (s : Subject) → Prepared trees.0 trees.1 (Ok s) → TaskFinds (task s) → c.reads_now ≡ c.reads_before →
      (text : List ℕ) (b : Answer) (r : Result Ended Stop) → text ≡ task_text (task s) → b ≡ task_answer (task s) → PrintsStop text c.old c.new c.faults_before c.faults_now r → Reaches b r →
      Ends (λ files. Tasked task trees) c r
  text_ended s prepared finds reads = ended_as (λ files. Tasked task trees) c (task s) (if_all c.files _ (λ files. inl (s, prepared, refl))) finds reads

-- the trees were not loaded
module _ (L : Files → Stage Trees) (task : Subject → Task) (c : Call) where
  abbrev Over : Files → Stage Task
  Over files = Then (L files) (Tasked task)

  pub front-ended : (stop : Stop) → c.new ≡ c.old → c.faults_now ≡ c.faults_before → CountsRead {A = Front} (Err stop) c.reads_before c.reads_now →
      IfSome c.files (λ files. GivesRead (L files) (Err stop)) → Ends Over c (Err stop)
  front-ended (Refused e) same faults reads h = (reads, faults, same, if_some c.files _ _ (λ files f. inr (e, f, refl)) h)
  front-ended Spent same faults reads h = absurd reads
  front-ended ReadFault same faults reads h = (reads, faults, same)
  front-ended WriteFault same faults reads h = absurd reads
  front-ended OutOfMemory same faults reads h = (reads, faults, inl same)

-- ---- commands over files

same_text : (command : Command) (s : Subject) (p : Problem) → Poses s p → command_text command (enumerations_in p) p.variables p.core.value ≡ task_text (task_of command s)
unfolding task_text
same_text (Solve searching) s p poses = λ i. command_text (Solve searching) (poses.enumerations_are i) (poses.variables_are i) (poses.core_is i)
same_text Ground s p poses = λ i. command_text Ground (poses.enumerations_are i) (poses.variables_are i) (poses.core_is i)

same_answer : (command : Command) (s : Subject) (p : Problem) → Poses s p → command_answer command p.core.value ≡ task_answer (task_of command s)
unfolding task_answer
same_answer (Solve searching) s p poses = ap (command_answer (Solve searching)) poses.core_is
same_answer Ground s p poses = refl

-- a command's text was printed, or a front of it
pub command-ended : (command : Command) (c : Call) (trees : Trees) (s : Subject) (p : Problem) → Prepared trees.0 trees.1 (Ok s) → Poses s p → c.reads_now ≡ c.reads_before →
    (r : Result Ended Stop) → PrintsStop (command_text command (enumerations_in p) p.variables p.core.value) c.old c.new c.faults_before c.faults_now r →
    Reaches (command_answer command p.core.value) r → Ends (λ files. Tasked (task_of command) trees) c r
command-ended command c trees s p prepared poses reads r =
    text_ended (task_of command) c trees s prepared (command_finds command s poses.is_ready) reads _ _ r (same_text command s p poses) (same_answer command s p poses)

-- ---- made models

made_same_text : (g : Generated) (s : Subject) (p : Problem) → Poses s p → made_text g p.core.value ≡ task_text (summarizes g s)
unfolding task_text
made_same_text g s p poses = ap (made_text g) poses.core_is

made_same_answer : (g : Generated) (s : Subject) (p : Problem) → Poses s p → trace_answer None (core_trace false p.core.value default_budget) ≡ task_answer (summarizes g s)
unfolding task_answer
made_same_answer g s p poses = ap (λ core. trace_answer None (core_trace false core default_budget)) poses.core_is

-- a stage that reads no files
told-anyway : (files : Option Files) (P : Stage Trees) (r : Result Trees Stop) → Gives P r → IfSome files (λ told. GivesRead P r)
told-anyway files P (Ok trees) h = if_all files _ (λ told. h)
told-anyway files P (Err (Refused e)) h = if_all files _ (λ told. h)
told-anyway files P (Err Spent) h = absurd h
told-anyway files P (Err ReadFault) h = absurd h
told-anyway files P (Err WriteFault) h = absurd h
told-anyway files P (Err OutOfMemory) h = if_all files _ (λ told. h)

-- the tree of a made model was not read
pub made-front-ended : (g : Generated) (c : Call) (stop : Stop) → c.new ≡ c.old → c.faults_now ≡ c.faults_before → c.reads_now ≡ c.reads_before → Gives (Read (model_text g) []) (front_of (Err stop)) →
    Ends (λ files. Answered files (generate g)) c (Err stop)
made-front-ended g c stop same faults reads h = front-ended (λ told. Read (model_text g) []) (summarizes g) c stop same faults (counts stop h) (told-anyway c.files (Read (model_text g) []) (Err stop) h)
  where
    counts : (stop : Stop) → Gives (Read (model_text g) []) (Err stop) → CountsRead {A = Front} (Err stop) c.reads_before c.reads_now
    counts (Refused e) h = reads
    counts Spent h = absurd h
    counts ReadFault h = absurd h
    counts WriteFault h = absurd h
    counts OutOfMemory h = reads

-- the summary was printed, or a front of it
pub made-ended : (g : Generated) (c : Call) (trees : Trees) (s : Subject) (p : Problem) → Prepared trees.0 trees.1 (Ok s) → Poses s p → c.reads_now ≡ c.reads_before → (r : Result Ended Stop) →
    PrintsStop (made_text g p.core.value) c.old c.new c.faults_before c.faults_now r → Reaches (trace_answer None (core_trace false p.core.value default_budget)) r →
    Ends (λ files. Tasked (summarizes g) trees) c r
made-ended g c trees s p prepared poses reads r =
    text_ended (summarizes g) c trees s prepared (made_finds g s poses.is_ready) reads _ _ r (made_same_text g s p poses) (made_same_answer g s p poses)

-- ---- the help

help_same_text : help_text ≡ task_text helps
unfolding task_text
help_same_text = refl

help_same_answer : answer.Done ≡ task_answer helps
unfolding task_answer
help_same_answer = refl

-- the help was printed, or a front of it
pub help-ended : (J : Files → Stage Task) (c : Call) → ((files : Files) → J files (Ok helps)) → c.reads_now ≡ c.reads_before → (r : Result Ended Stop) →
    PrintsStop help_text c.old c.new c.faults_before c.faults_now r → Reaches answer.Done r → Ends J c r
help-ended J c judged reads r = ended_as J c helps (if_all c.files _ judged) tt reads help_text _ r help_same_text help_same_answer

-- ---- from one part of a call to the whole

if_both : {A : Type 0} (o : Option A) (P Q R : A → Type 0) → ((a : A) → P a → Q a → R a) → IfSome o P → IfSome o Q → IfSome o R
if_both None P Q R so p q = tt
if_both (Some a) P Q R so p q = so a p q

module _ (J K : Files → Stage Task) (c : Call) (so : IfSome c.files (λ files. (o : Result Task Refusal) → J files o → K files o)) where
  finished_so : (a : Answer) → IfSome c.files (Finished J c a) → IfSome c.files (Finished K c a)
  finished_so a h = if_both c.files _ _ _ (λ files so f. record { task = f.task; judged = so (Ok f.task) f.judged; finds = f.finds; answers = f.answers; written = f.written }) so h

  stopped_so : IfSome c.files (Stopped J c) → IfSome c.files (Stopped K c)
  stopped_so h = if_both c.files _ _ _ (λ files so f. record { task = f.task; judged = so (Ok f.task) f.judged; finds = f.finds; written = f.written }) so h

  ends_so : (r : Result Ended Stop) → Ends J c r → Ends K c r
  ends_so (Ok Done) (reads, faults, h) = (reads, faults, finished_so _ h)
  ends_so (Ok NoSolution) (reads, faults, h) = (reads, faults, finished_so _ h)
  ends_so (Err (Refused e)) (reads, faults, same, h) = (reads, faults, same, if_both c.files _ _ _ (λ files so f. so (Err e) f) so h)
  ends_so (Err Spent) (reads, faults, h) = (reads, faults, finished_so _ h)
  ends_so (Err ReadFault) h = h
  ends_so (Err WriteFault) (reads, faults, h) = (reads, faults, stopped_so h)
  ends_so (Err OutOfMemory) (reads, faults, inl same) = (reads, faults, inl same)
  ends_so (Err OutOfMemory) (reads, faults, inr h) = (reads, faults, inr (stopped_so h))

-- the trees were loaded
pub loaded-ended : (L : Files → Stage Trees) (task : Subject → Task) (c : Call) (trees : Trees) (r : Result Ended Stop) → IfSome c.files (λ files. L files (Ok trees)) →
    Ends (λ files. Tasked task trees) c r → Ends (λ files. Then (L files) (Tasked task)) c r
loaded-ended L task c trees r loaded h =
    ends_so (λ files. Tasked task trees) (λ files. Then (L files) (Tasked task)) c (if_some c.files _ _ (λ files f o j. inl (trees, f, j)) loaded) r h

-- the words ask for this
pub asked-ended : (words : List (List ℕ)) (asked : Asked) (c : Call) (r : Result Ended Stop) → Some asked ≡ request words → Ends (λ files. Answered files asked) c r → Ends (Judged words) c r
asked-ended words asked c r is h = ends_so (λ files. Answered files asked) (Judged words) c (if_all c.files _ (λ files o j. inl (asked, sym is, j))) r h
