-- One moment after another.
use Rattle.std.proofs.Common.{◌≡◌, ℕ, zero, suc, ◌+◌, ◌-◌, ◌*◌, ◌<◌, ◌≤◌, true, false, refl, List, [], ◌∷◌, ◌++◌, map, length, drop, get_or, ℤ, ap, sym, ◌∙◌, subst, arith}
use Rattle.std.specs.Prelude.{Option, Some, None}
use Rattle.opl_domain.specs.Family.{Family, IsFamily}
use Rattle.opl_expr.specs.declared.model.Core.{Core}
use Rattle.opl_expr.specs.Forms.{Fact}
use Rattle.opl_expr.specs.Solutions.{goal_term}
use Rattle.opl_trace.specs.Marks.{objective}
use Rattle.opl_trace.specs.Objective.{Objective}
use Rattle.opl_trace.specs.Statements.{Statement}
use Rattle.opl_trace.specs.Run as run
use Rattle.opl_trace.specs.Run.{Mark, Out, Rest, stopped, behind, alternatives, first_leaf, committed, choices, entered, within}
use Rattle.opl_trace.specs.Moments.{core_sets}
use Rattle.opl_trace.specs.SoundCores.{IsSoundCore, AreSound, IsBest}
use Rattle.opl_steps.specs.Tasks as steps
use Rattle.opl_steps.specs.Tasks.{Task, end_of}
use Rattle.opl_steps.specs.Tasks.Task.{act}
use Rattle.opl_steps.specs.Steps.{Way, Next, next_step}
use Rattle.opl_steps.specs.Steps.Next.{choose}
use Rattle.opl_steps.specs.Costs.{cost_tasks, cost_ways, cost_choice, IsLess}
use Rattle.opl_steps.specs.Made.{Means}
use Rattle.opl_steps.proofs.Meaning.{step_means}
use Rattle.opl_steps.proofs.Lessening.{step_less, tasks_less}
use Rattle.opl_reference_labelling.specs.declared.outcome.Outcome as code
use Rattle.opl_reference_labelling.specs.Outcomes.{AreSoundMarks, IsSoundOut, IsMade, outcome}
use Rattle.opl_reference_labelling.specs.Labelling.{labelling}
use Rattle.opl_reference_labelling.proofs.Labels.{below_at, solution_label, made_as, IsUnderWay, cut_way, next_way, sound_turn}
use Rattle.opl_reference_search.specs.declared.task.End.{End}
use Rattle.opl_reference_search.specs.declared.task.End.TheVariants.{Whole, Inner}
use Rattle.opl_reference_search.specs.Tasks.{end_in, doing}
use Rattle.opl_reference_search.specs.Sound.{AreSoundTasks, IsSoundWay, AreSoundWays}
use Rattle.opl_reference_search.specs.Made.{rests, once_then, IsRun}
use Rattle.opl_reference_search.proofs.SoundSteps.{IsSoundNext, step_sound}

-- ---- what comes next

pub record IsNext (core : Core) (end : End) (ts : List Task) (P : List Fact) (b : Option ℤ) (n : ℕ) (next : Next) : Type 0 where
  pub means : Means (objective core) (core_sets core) (end_in end) ts P b n next
  pub less : IsLess ts n next
  pub sound : IsSoundNext core next

pub is_next : (core : Core) (end : End) (ts : List Task) (P : List Fact) (b : Option ℤ) (n : ℕ) (C : Family) (next : Next) → IsSoundCore core → IsFamily C → AreSound core P → AreSoundTasks core.sets ts → core_sets core P b ≡ Some C → next ≡ next_step C P n ts → IsNext core end ts P b n next
is_next core end ts P b n C next k f s r m e = subst (λ x. IsNext core end ts P b n x) (sym e) (record {
  means = step_means (objective core) (core_sets core) (end_in end) P b n C m ts;
  less = step_less C P n ts;
  sound = step_sound core C k f (below_at core P b C m) P n s ts r;
})

-- ---- what the program made

pub run_of : (core : Core) (o : code.Outcome) (p q : Out) (n : ℕ) → outcome core o ≡ p → p ≡ q → IsSoundOut core p → o.left ≤ n → IsRun core o q n
run_of core o p q n e i s h = record { made = record { same = e ∙ i; sound = subst (λ r. IsSoundOut core r) i s }; fewer = h }

pub run_as : (core : Core) (o : code.Outcome) (p q : Out) (n : ℕ) → IsRun core o p n → q ≡ p → IsRun core o q n
run_as core o p q n r e = subst (λ x. IsRun core o x n) (sym e) r

pub nothing_run : (core : Core) (o : code.Outcome) (p : Out) (b : Option ℤ) (n : ℕ) → IsBest core.sets (goal_term core) b → outcome core o ≡ run.nothing [] b n → p ≡ run.nothing [] b n → IsRun core o p n
nothing_run core o p b n h e i =
    let l : o.left ≡ n = ap (λ r. r.left) e in
    run_of core o (run.nothing [] b n) p n e (sym i) (record { marks = tt; best = h }) (omega (arith, l))

pub spent_run : (core : Core) (o r : code.Outcome) (p : Out) (b : Option ℤ) (n : ℕ) → IsBest core.sets (goal_term core) b → outcome core r ≡ run.nothing [] b zero → o ≡ record r { is_cut = true } → p ≡ stopped b → IsRun core o p n
spent_run core o r p b n h e i j =
    let s : outcome core o ≡ stopped b = ap (outcome core) i ∙ ap (λ q. let w : Out = record q { is_cut = true } in w) e in
    let l : o.left ≡ zero = ap (λ q. q.left) s in
    run_of core o (stopped b) p n s (sym j) (record { marks = tt; best = h }) (omega (arith, l))

-- ---- the end

within_at : (goal : Option Objective) (sets : List Fact → Option ℤ → Option Family) (next : Family → Rest) (P : List Fact) (b : Option ℤ) (n : ℕ) (C : Family) → sets P b ≡ Some C → within goal sets next P b n ≡ next C P b n
unfolding within
within_at goal sets next P b n C e = ap (λ o. entered next o P b n) e

-- the end of the whole is that of labelling no variable
pub whole_end : (core : Core) (end : End) (P : List Fact) (b : Option ℤ) (n : ℕ) (C : Family) → core_sets core P b ≡ Some C → end ≡ Whole → doing core end [] P b n ≡ labelling core [] P b n
unfolding steps.doing labelling
whole_end core end P b n C m e =
    ap (λ d. end_of (objective core) (core_sets core) (end_in d) P b n) e ∙ sym (within_at (objective core) (core_sets core) (λ F. run.whole_leaf (objective core) (core_sets core)) P b n C m)

pub inner_end : (core : Core) (end : End) (P : List Fact) (b : Option ℤ) (n : ℕ) (C : Family) → core_sets core P b ≡ Some C → end ≡ Inner → doing core end [] P b n ≡ (let o : Out = record { marks = Mark.leaf P ∷ []; best = b; left = n; is_cut = false } in o)
unfolding steps.doing
inner_end core end P b n C m e =
    ap (λ d. end_of (objective core) (core_sets core) (end_in d) P b n) e ∙ within_at (objective core) (core_sets core) (λ F Q c k. let o : Out = record { marks = Mark.leaf Q ∷ []; best = c; left = k; is_cut = false } in o) P b n C m

-- with nothing left to do it is the end
pub finished_run : (core : Core) (end : End) (ts : List Task) (P : List Fact) (b : Option ℤ) (n : ℕ) → doing core end ts P b n ≡ end_of (objective core) (core_sets core) (end_in end) P b n → (o : code.Outcome) → IsRun core o (doing core end [] P b n) n → IsRun core o (doing core end ts P b n) n
unfolding steps.doing
finished_run core end ts P b n e o r = run_as core o (doing core end [] P b n) (doing core end ts P b n) n r e

-- ---- alternatives

pub drop_here : {X : Type 0} (i : ℕ) (xs : List X) (x d : X) → i < length xs → x ≡ get_or xs i d → drop i xs ≡ x ∷ drop (i + 1) xs
drop_here i xs x d h e = let k : i + 1 ≡ suc i = omega arith in drop_suc i xs x d h e ∙ ap (λ j. x ∷ drop j xs) (sym k)
  where
    drop_suc : {X : Type 0} (i : ℕ) (xs : List X) (x d : X) → i < length xs → x ≡ get_or xs i d → drop i xs ≡ x ∷ drop (suc i) xs
    drop_suc i [] x d h e = absurd (omega arith)
    drop_suc zero (y ∷ xs) x d h e = ap (λ z. z ∷ xs) (sym e)
    drop_suc (suc i) (y ∷ xs) x d h e = drop_suc i xs x d (omega arith) e

pub drop_full : {X : Type 0} (i : ℕ) (xs : List X) → length xs ≤ i → drop i xs ≡ []
drop_full i [] h = drop_none i
  where
    drop_none : {X : Type 0} (i : ℕ) → drop i (let xs : List X = [] in xs) ≡ []
    drop_none zero = refl
    drop_none (suc i) = refl
drop_full zero (x ∷ xs) h = absurd (omega arith)
drop_full (suc i) (x ∷ xs) h = drop_full i xs (omega arith)

-- one of some ways is sound, and costs no more than the dearest
pub way_sound : {X : Type 0} (core : Core) (f : X → Way) (xs : List X) (i : ℕ) (x d : X) → i < length xs → x ≡ get_or xs i d → AreSoundWays core (map f xs) → IsSoundWay core (f x)
way_sound core f [] i x d h e s = absurd (omega arith)
way_sound core f (y ∷ xs) zero x d h e s = subst (λ z. IsSoundWay core (f z)) (sym e) s.0
way_sound core f (y ∷ xs) (suc i) x d h e s = way_sound core f xs i x d (omega arith) e s.1

pub way_cost : {X : Type 0} (f : X → Way) (xs : List X) (i : ℕ) (x d : X) (m : ℕ) → i < length xs → x ≡ get_or xs i d → cost_tasks (f x).tasks m ≤ cost_ways (map f xs) m
way_cost f [] i x d m h e = absurd (omega arith)
way_cost f (y ∷ xs) zero x d m h e = let s = ap (λ z. cost_tasks (f z).tasks m) e in omega (arith, s)
way_cost f (y ∷ xs) (suc i) x d m h e = let k = way_cost f xs i x d m (omega arith) e in omega (arith, k)

-- a choice costs more than the way that it takes
pub chosen_less : {X : Type 0} (f : X → Way) (xs : List X) (i : ℕ) (x d : X) (left now : ℕ) → i < length xs → x ≡ get_or xs i d → 0 < now → now ≤ left → 2 * cost_tasks (f x).tasks (now - 1) < cost_choice (map f xs) left
chosen_less f xs i x d zero now h e p l = absurd (omega (arith, p, l))
chosen_less f xs i x d (suc m) now h e p l =
    let a = way_cost f xs i x d m h e in
    let b = tasks_less (now - 1) m (omega (arith, p, l)) (f x).tasks in
    omega (arith, a, b)

-- ---- once

-- the marks before a Leaf and its constraints are sound
abbrev IsSoundLeft : Core → Option run.Left → Type 0
IsSoundLeft core None = Unit {0}
IsSoundLeft core (Some l) = AreSound core l.posted × AreSoundMarks core l.before

choice_left : (core : Core) (t : Option (ℕ × ℤ)) (o : Option run.Left) → IsSoundLeft core o → IsSoundLeft core (run.left_with (Mark.choice t) o)
choice_left core t None s = tt
choice_left core t (Some l) s = s

solution_left : (core : Core) (a : List ℤ) (o : Option run.Left) → IsSoundLeft core o → IsSoundLeft core (run.left_with (Mark.solution a) o)
solution_left core a None s = tt
solution_left core a (Some l) s = s

cut_left : (core : Core) (o : Option run.Left) → IsSoundLeft core o → IsSoundLeft core (run.left_with Mark.cut o)
cut_left core None s = tt
cut_left core (Some l) s = s

left_sound : (core : Core) (ms : List Mark) → AreSoundMarks core ms → IsSoundLeft core (first_leaf ms)
left_sound core [] s = tt
left_sound core (Mark.choice t ∷ ms) s = choice_left core t (first_leaf ms) (left_sound core ms s)
left_sound core (Mark.leaf P ∷ ms) s = (s.0, tt)
left_sound core (Mark.solution a ∷ ms) s = solution_left core a (first_leaf ms) (left_sound core ms s)
left_sound core (Mark.cut ∷ ms) s = cut_left core (first_leaf ms) (left_sound core ms s)

sound_joined : (core : Core) (ms ns : List Mark) → AreSoundMarks core ms → AreSoundMarks core ns → AreSoundMarks core (ms ++ ns)
sound_joined core [] ns s r = r
sound_joined core (Mark.choice t ∷ ms) ns s r = sound_joined core ms ns s r
sound_joined core (Mark.leaf P ∷ ms) ns s r = (s.0, sound_joined core ms ns s.1 r)
sound_joined core (Mark.solution a ∷ ms) ns s r = sound_joined core ms ns s r
sound_joined core (Mark.cut ∷ ms) ns s r = sound_joined core ms ns s r

-- the constraints of the first Leaf of what was made are sound
pub leaf_sound : (core : Core) (r : code.Outcome) (p : Out) (n : ℕ) (ms : List Mark) (Q : List Fact) → IsRun core r p n → (let l : run.Left = record { before = ms; posted = Q } in first_leaf (outcome core r).marks ≡ Some l) → AreSound core Q × AreSoundMarks core ms
leaf_sound core r p n ms Q k e = subst (λ o. IsSoundLeft core o) e (left_sound core (outcome core r).marks (subst (λ o. AreSoundMarks core o.marks) (sym k.made.same) k.made.sound.marks))

module _ (core : Core) (end : End) (s : Statement) (ts : List Task) (P : List Fact) (b : Option ℤ) (n : ℕ) where
  -- without a Leaf it is what stands under `once`
  pub kept_run : (r : code.Outcome) (us : List Task) → us ≡ act s ∷ [] → IsRun core r (doing core Inner us P b n) n → first_leaf (outcome core r).marks ≡ None → IsRun core r (once_then core end s ts P b n) n
  kept_run r us u k e =
      let same : outcome core r ≡ doing core Inner (act s ∷ []) P b n = k.made.same ∙ ap (λ vs. doing core Inner vs P b n) u in
      let none = ap (λ o. first_leaf o.marks) (sym same) ∙ e in
      run_of core r (doing core Inner us P b n) (once_then core end s ts P b n) n k.made.same
      (ap (λ vs. doing core Inner vs P b n) u ∙ sym (ap (λ l. committed (doing core end ts) (doing core Inner (act s ∷ []) P b n) b n l) none)) k.made.sound k.fewer

  -- with one, what follows it
  pub entered_run : (r q o : code.Outcome) (us : List Task) (ms : List Mark) (Q : List Fact) (more : ℕ) → us ≡ act s ∷ [] → IsRun core r (doing core Inner us P b n) n → (let l : run.Left = record { before = ms; posted = Q } in first_leaf (outcome core r).marks ≡ Some l) → more ≡ n - choices ms → IsRun core q (doing core end ts Q b more) more → outcome core o ≡ behind ms (outcome core q) → IsRun core o (once_then core end s ts P b n) n
  entered_run r q o us ms Q more u k e m i j =
      let same : outcome core r ≡ doing core Inner (act s ∷ []) P b n = k.made.same ∙ ap (λ vs. doing core Inner vs P b n) u in
      let some = ap (λ d. first_leaf d.marks) (sym same) ∙ e in
      let a = ap (behind ms) (i.made.same ∙ ap (doing core end ts Q b) m) in
      let before = (leaf_sound core r (doing core Inner us P b n) n ms Q k e).1 in
      let h = i.fewer in
      let l : o.left ≡ q.left = ap (λ d. d.left) j in
      run_of core o (behind ms (outcome core q)) (once_then core end s ts P b n) n j
      (a ∙ sym (ap (λ d. committed (doing core end ts) (doing core Inner (act s ∷ []) P b n) b n d) some))
      (record { marks = sound_joined core ms (outcome core q).marks before (subst (λ d. AreSoundMarks core d.marks) (sym i.made.same) i.made.sound.marks); best = subst (λ d. IsBest core.sets (goal_term core) d.best) (sym i.made.same) i.made.sound.best })
      (omega (arith, l, h, m))

-- ---- what the end made

pub whole_run : (core : Core) (o : code.Outcome) (end : End) (P : List Fact) (b : Option ℤ) (n : ℕ) (C : Family) → core_sets core P b ≡ Some C → end ≡ Whole → IsMade core o (labelling core [] P b n) → IsRun core o (doing core end [] P b n) n
whole_run core o end P b n C m e k =
    let l : o.left ≡ n = ap (λ q. q.left) (k.same ∙ solution_label core P b n C m) in
    record { made = made_as core o (labelling core [] P b n) (doing core end [] P b n) k (whole_end core end P b n C m e); fewer = omega (arith, l) }

pub inner_run : (core : Core) (o : code.Outcome) (end : End) (P Q : List Fact) (b : Option ℤ) (n : ℕ) (C : Family) → core_sets core P b ≡ Some C → end ≡ Inner → AreSound core P → IsBest core.sets (goal_term core) b → (let p : Out = record { marks = Mark.leaf Q ∷ []; best = b; left = n; is_cut = false } in outcome core o ≡ p) → Q ≡ P → IsRun core o (doing core end [] P b n) n
inner_run core o end P Q b n C m e s h i j =
    let made : Out = record { marks = Mark.leaf P ∷ []; best = b; left = n; is_cut = false } in
    let same : outcome core o ≡ made = i ∙ ap (λ R. let p : Out = record { marks = Mark.leaf R ∷ []; best = b; left = n; is_cut = false } in p) j in
    let l : o.left ≡ n = ap (λ q. q.left) same in
    run_of core o made (doing core end [] P b n) n same (sym (inner_end core end P b n C m e)) (record { marks = (s, tt); best = h }) (omega (arith, l))

-- ---- one alternative after another

pub choice_less : (ws : List Way) (ts : List Task) (n : ℕ) → IsLess ts n (choose ws) → cost_choice ws n < 2 * cost_tasks ts n
choice_less ws ts zero l = omega (arith, l.0)
choice_less ws ts (suc m) l = let k = l.1 m refl in omega (arith, k)

module _ (core : Core) (end : End) (all : List Way) (x : Way) (others : List Way) (b : Option ℤ) (n : ℕ) (o p q : Out) (u : IsUnderWay core (rests core end all) (rests core end (x ∷ others)) [] b n o) (some : 0 < o.left) (h : o.left ≤ n) (i : p ≡ doing core end x.tasks x.posted o.best (o.left - 1)) (j : q ≡ behind o.marks (run.marked (Mark.choice x.label) p)) where
  pub turn_cut : q.is_cut ≡ true → q ≡ alternatives (rests core end all) [] b n
  turn_cut c = cut_way core (rests core end all) (rests core end others) (record { label = x.label; rest = λ Q. doing core end x.tasks x.posted }) [] b n (o.left - 1) o p q u (omega (arith, some)) i j c

  pub turn_next : IsSoundOut core p → q.is_cut ≡ false → IsUnderWay core (rests core end all) (rests core end others) [] b n q
  turn_next s c = next_way core (rests core end all) (rests core end others) (record { label = x.label; rest = λ Q. doing core end x.tasks x.posted }) [] b n (o.left - 1) o p q u (omega (arith, some)) i s j c

  pub turn_sound : IsSoundOut core p → IsSoundOut core q
  turn_sound s = sound_turn core x.label o p q u.sound s j

  pub turn_fewer : p.left ≤ o.left - 1 → q.left ≤ n
  turn_fewer l = let e : q.left ≡ p.left = ap (λ d. d.left) j in omega (arith, e, l, h)
