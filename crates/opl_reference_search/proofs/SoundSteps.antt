-- What comes next is sound.
use Rattle.std.proofs.Common.{◌≡◌, ℕ, zero, suc, ◌<◌, Bool, true, false, cond, List, [], ◌∷◌, map, length, ℤ, arith}
use Rattle.std.proofs.lemmas.List.Elements.{All-push}
use Rattle.std.proofs.lemmas.List.{length-map}
use Rattle.opl_trace.specs.Between.{values_between}
use Rattle.opl_domain.specs.Family.{Family, IsFamily, Below, set_of, has, member}
use Rattle.opl_domain.proofs.Members.{member_first, member_later}
use Rattle.opl_expr.specs.declared.model.Core.{Core}
use Rattle.opl_expr.specs.Forms.{Fact}
use Rattle.opl_expr.specs.Solutions.{declared}
use Rattle.opl_expr.specs.Sound.{IsSoundFact}
use Rattle.opl_trace.specs.Answers.{is_single, answered, is_met, is_decided, is_value, precedes, key_value}
use Rattle.opl_trace.specs.Elements.{Arm, Picked, comes_first, pick, ordered, taken}
use Rattle.opl_trace.specs.Statements.{Statement, Statements, Branches}
use Rattle.opl_trace.specs.Statements.Statement.{post, block, try, try_all, for_all, select, once, while, decide, generate, rank}
use Rattle.opl_trace.specs.Statements.Statements.{no_statements, more_statements}
use Rattle.opl_trace.specs.Statements.Branch.{branch}
use Rattle.opl_trace.specs.Statements.Branches.{no_branches, more_branches}
use Rattle.opl_trace.specs.Questions.{IsOpenFact}
use Rattle.opl_trace.specs.SoundCores.{IsSoundCore, AreThere, ArePairs, IsSoundStatement, AreSoundStatements, AreSoundBranches}
use Rattle.opl_trace.specs.SoundCores.{AreSound}
use Rattle.opl_steps.specs.Tasks.{Task}
use Rattle.opl_steps.specs.Tasks.Task.{act, values, orders, elements, turns}
use Rattle.opl_steps.specs.Steps.{Next, on, on_value, acts_then, each_then, elements_of, bodies_then, first_then, performed, labelled, both_then, ranked, visited, turned, started, next_step}
use Rattle.opl_steps.specs.Steps.Next.{finished, nothing, spent, go, choose, commit}
use Rattle.opl_choices.proofs.AnswersSound.{are_bounded, fact_sound}
use Rattle.opl_reference_labelling.proofs.Labels.{magnitude_small, value_sound}
use Rattle.opl_choices.specs.Branches.{AreSoundElements}
use Rattle.opl_reference_search.specs.Sound.{IsSoundTask, AreSoundTasks, IsSoundWay, AreSoundWays}

abbrev pub IsSoundNext : Core → Next → Type 0
IsSoundNext core finished = Unit {0}
IsSoundNext core nothing = Unit {0}
IsSoundNext core spent = Unit {0}
IsSoundNext core (go w) = IsSoundWay core w
IsSoundNext core (choose ws) = AreSoundWays core ws
IsSoundNext core (commit s us) = IsSoundStatement core.sets s × AreSoundTasks core.sets us

-- ---- elements

module _ (sets : List (ℤ × ℤ)) where
  pub taken_sound : (F : Family) (es : List (Arm Statement)) → AreSoundElements sets es → AreSoundElements sets (taken F es)
  taken_sound F [] s = tt
  taken_sound F (a ∷ es) s = elim (is_met F a.when) as (λ v. AreSoundElements sets (cond v (a ∷ taken F es) (taken F es))) [
    | true ↦ (s.0, taken_sound F es s.1)
    | false ↦ taken_sound F es s.1
  ]

  -- a first element, and the others
  abbrev IsSoundPicked : Picked Statement → Type 0
  IsSoundPicked p = AreSoundElements sets (p.arm ∷ p.others)

  pick_sound : (F : Family) (a : Arm Statement) (es : List (Arm Statement)) → AreSoundElements sets (a ∷ es) → IsSoundPicked (pick F a es)
  pick_sound F a [] s = s
  pick_sound F a (b ∷ es) s =
      let i = pick_sound F b es s.1 in
      elim (comes_first a.rising (key_value F (pick F b es).arm.key) (key_value F a.key)) as (λ t.
      IsSoundPicked (cond t (record { arm = (pick F b es).arm; others = a ∷ (pick F b es).others }) (record { arm = a; others = b ∷ es }))) [
        | true ↦ (i.0, (s.0, i.1))
        | false ↦ s
      ]

  pub ordered_sound : (F : Family) (k : ℕ) (es : List (Arm Statement)) → AreSoundElements sets es → AreSoundElements sets (ordered F k es)
  ordered_sound F zero es s = tt
  ordered_sound F (suc k) [] s = tt
  ordered_sound F (suc k) (a ∷ es) s = let i = pick_sound F a es s in (i.0, ordered_sound F k (pick F a es).others i.1)

  pub elements_sound : (bs : Branches) → AreSoundBranches sets bs → AreSoundElements sets (elements_of bs)
  elements_sound no_branches s = tt
  elements_sound (more_branches (branch c key rising t) bs) s = (s.0, elements_sound bs s.1)

  acts_sound : (ss : Statements) (ts : List Task) → AreSoundStatements sets ss → AreSoundTasks sets ts → AreSoundTasks sets (acts_then ss ts)
  acts_sound no_statements ts s r = r
  acts_sound (more_statements t ss) ts s r = (s.0, acts_sound ss ts s.1 r)

module _ (core : Core) (C : Family) (k : IsSoundCore core) (f : IsFamily C) (w : Below C (declared core)) (P : List Fact) (n : ℕ) (posted : AreSound core P) where
  each_sound : (ss : Statements) (ts : List Task) → AreSoundStatements core.sets ss → AreSoundTasks core.sets ts → AreSoundWays core (each_then P ss ts)
  each_sound no_statements ts s r = tt
  each_sound (more_statements t ss) ts s r = (record { posted = posted; tasks = (s.0, r) }, each_sound ss ts s.1 r)

  bodies_sound : (es : List (Arm Statement)) (ts : List Task) → AreSoundElements core.sets es → AreSoundTasks core.sets ts → AreSoundWays core (bodies_then P es ts)
  bodies_sound [] ts s r = tt
  bodies_sound (a ∷ es) ts s r = (record { posted = posted; tasks = (s.0.2, r) }, bodies_sound es ts s.1 r)

  first_sound : (es : List (Arm Statement)) (ts : List Task) → AreSoundElements core.sets es → AreSoundTasks core.sets ts → IsSoundNext core (first_then C P es ts)
  first_sound [] ts s r = tt
  first_sound (a ∷ es) ts s r = let i = pick_sound core.sets C a es s in record { posted = posted; tasks = (i.0.2, r) }

  statement_next : (s : Statement) (ts : List Task) → IsSoundStatement core.sets s → AreSoundTasks core.sets ts → IsSoundNext core (performed C P n s ts)
  statement_next (post c) ts s r = record { posted = All-push (IsSoundFact core.sets) P (answered C c) posted (fact_sound core.sets C (are_bounded core C f w) c s); tasks = r }
  statement_next (block ss) ts s r = record { posted = posted; tasks = acts_sound core.sets ss ts s r }
  statement_next (try ss) ts s r = each_sound ss ts s r
  statement_next (try_all bs) ts s r =
      let ready = taken C (elements_of bs) in
      bodies_sound (ordered C (length ready) ready) ts (ordered_sound core.sets C (length ready) ready (taken_sound core.sets C (elements_of bs) (elements_sound core.sets bs s))) r
  statement_next (for_all bs) ts s r = record { posted = posted; tasks = (taken_sound core.sets C (elements_of bs) (elements_sound core.sets bs s), r) }
  statement_next (select bs) ts s r = first_sound (taken C (elements_of bs)) ts (taken_sound core.sets C (elements_of bs) (elements_sound core.sets bs s)) r
  statement_next (once t) ts s r = (s, r)
  statement_next (while c t) ts s r = record { posted = posted; tasks = (s, r) }
  statement_next (decide c t u) ts s r = record {
    posted = posted;
    tasks = (elim (is_met C c) as (λ v. IsSoundStatement core.sets (cond v t u)) [ true ↦ s.1 | false ↦ s.2 ], r);
  }
  statement_next (generate xs) ts s r = record { posted = posted; tasks = (s, r) }
  statement_next (rank pairs) ts s r = record { posted = posted; tasks = (s, r) }

  values_sound : (x : ℕ) (xs : List ℕ) (ts : List Task) (vs : List ℤ) → x < length core.sets → ((v : ℤ) → member v vs ≡ true → has C x v ≡ true) → AreThere core.sets xs → AreSoundTasks core.sets ts → AreSoundWays core (map (λ v. on_value x v P (values xs ∷ ts)) vs)
  values_sound x xs ts [] h m s r = tt
  values_sound x xs ts (v ∷ vs) h m s r = (
    record { posted = All-push (IsSoundFact core.sets) P (is_value x v) posted (value_sound core C k f w x v h (m v (member_first v vs))); tasks = (s, r) },
    values_sound x xs ts vs h (λ u i. m u (member_later u v vs i)) s r,
  )

  label_next : (xs : List ℕ) (ts : List Task) → AreThere core.sets xs → AreSoundTasks core.sets ts → IsSoundNext core (labelled C P xs ts)
  label_next [] ts s r = record { posted = posted; tasks = r }
  label_next (x ∷ xs) ts s r =
      let ways = map (λ v. on_value x v P (values xs ∷ ts)) (set_of C x) in
      elim (is_single C x) as (λ v. IsSoundNext core (cond v (go (on P (values xs ∷ ts))) (choose ways))) [
        | true ↦ record { posted = posted; tasks = (s.1, r) }
        | false ↦ values_sound x xs ts (set_of C x) s.0 (λ v m. m) s.1 r
      ]

  pub order_sound : (x y : ℕ) → suc x < length core.sets → suc y < length core.sets → IsSoundFact core.sets (precedes x y)
  order_sound x y h i =
      let a = magnitude_small core C k f w x (omega (arith, h)) in
      let b = magnitude_small core C k f w (suc x) h in
      let d = magnitude_small core C k f w y (omega (arith, i)) in
      (omega (arith, a, b, d), ((omega (arith, a, b)), ((omega (arith, a), omega (arith, h)), ((omega (arith, b), h), tt))), (omega (arith, d), omega (arith, i)))

  rank_next : (ps : List (ℕ × ℕ)) (ts : List Task) → ArePairs core.sets ps → AreSoundTasks core.sets ts → IsSoundNext core (ranked C P ps ts)
  rank_next [] ts s r = record { posted = posted; tasks = r }
  rank_next (p ∷ ps) ts s r = either (is_decided C (precedes p.0 p.1)) (is_decided C (precedes p.1 p.0))
    where
      either : (u v : Bool) → IsSoundNext core (cond u (go (on P (orders ps ∷ ts))) (cond v (go (on P (orders ps ∷ ts))) (both_then P p ps ts)))
      either true v = record { posted = posted; tasks = (s.2, r) }
      either false true = record { posted = posted; tasks = (s.2, r) }
      either false false = (
        record { posted = All-push (IsSoundFact core.sets) P (precedes p.0 p.1) posted (order_sound p.0 p.1 s.0 s.1); tasks = (s.2, r) },
        (record { posted = All-push (IsSoundFact core.sets) P (precedes p.1 p.0) posted (order_sound p.1 p.0 s.1 s.0); tasks = (s.2, r) }, tt),
      )

  visit_next : (es : List (Arm Statement)) (ts : List Task) → AreSoundElements core.sets es → AreSoundTasks core.sets ts → IsSoundNext core (visited C P es ts)
  visit_next [] ts s r = record { posted = posted; tasks = r }
  visit_next (a ∷ es) ts s r = let i = pick_sound core.sets C a es s in record { posted = posted; tasks = (i.0.2, (i.1, r)) }

  loop_next : (m : ℕ) (c : Fact) (t : Statement) (ts : List Task) (v : Bool) → IsOpenFact core.sets c → IsSoundStatement core.sets t → AreSoundTasks core.sets ts → IsSoundNext core (cond v (turned P m c t ts) (go (on P ts)))
  loop_next zero c t ts true i s r = tt
  loop_next zero c t ts false i s r = record { posted = posted; tasks = r }
  loop_next (suc m) c t ts true i s r = (record { posted = posted; tasks = (s, ((i, s), r)) }, tt)
  loop_next (suc m) c t ts false i s r = record { posted = posted; tasks = r }

  task_next : (t : Task) (ts : List Task) → IsSoundTask core.sets t → AreSoundTasks core.sets ts → IsSoundNext core (started C P n t ts)
  task_next (act s) ts i r = statement_next s ts i r
  task_next (values xs) ts i r = label_next xs ts i r
  task_next (orders ps) ts i r = rank_next ps ts i r
  task_next (elements es) ts i r = visit_next es ts i r
  task_next (turns m c s) ts i r = loop_next m c s ts (is_met C c) i.0 i.1 r

  pub step_sound : (ts : List Task) → AreSoundTasks core.sets ts → IsSoundNext core (next_step C P n ts)
  step_sound [] r = tt
  step_sound (t ∷ ts) r = task_next t ts r.0 r.1

-- ---- variables

-- each declared set is that of a variable
pub declared_length : (core : Core) → length (declared core) ≡ length core.sets
unfolding declared
declared_length core = length-map core.sets (λ p. values_between p)
