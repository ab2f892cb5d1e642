-- What one turn of a search makes.
use Rattle.std.proofs.Common.{◌≡◌, ◌∙◌, ℕ, zero, suc, ◌+◌, ◌-◌, ◌<◌, ◌≤◌, Bool, true, false, cond, refl, List, [], ◌∷◌, ◌++◌, map, length, ℤ, ap, sym, subst, arith, append_assoc, append-nil}
use Rattle.std.specs.Prelude.{Option, Some, None}
use Rattle.opl_domain.specs.Family.{Family}
use Rattle.opl_expr.specs.Forms.{Fact}
use Rattle.opl_trace.specs.Objective.{Objective, best_after}
use Rattle.opl_trace.specs.Statements.{Statement}
use Rattle.opl_trace.specs.Run as run
use Rattle.opl_trace.specs.Run.{Mark, Out, Rest, stopped, marked, behind, after, alternatives, committed, first_leaf, left_with, choices, entered, within, whole_leaf, inner_leaf, values_of}
use Rattle.opl_trace.specs.Run.Mark.{choice, leaf, solution}
use Rattle.opl_steps.specs.Tasks.{Task, End, doing, end_of}
use Rattle.opl_steps.specs.Tasks.End.{whole, inner}
use Rattle.opl_steps.specs.Tasks.Task.{act}
use Rattle.opl_steps.specs.Steps.{Way, Next, next_step}
use Rattle.opl_steps.specs.Steps.Next.{finished, nothing, go, choose, commit}
use Rattle.opl_steps.specs.Steps as st
use Rattle.opl_steps.specs.Made.{rests, Means}
use Rattle.opl_steps.proofs.Meaning.{step_means}
use Rattle.opl_steps.proofs.Failed.{failed_tasks}
use Rattle.opl_turns.specs.Coming as c
use Rattle.opl_turns.specs.Coming.{Place, mode, past_gate, follows, with_places, coming, trying}
use Rattle.opl_turns.specs.Coming.Place.{ways, gate}
use Rattle.opl_turns.specs.Coming.Turn.{down, back, solved, ended}

-- ---- outs

less_one : (n k : ℕ) → (suc n - suc k) ≡ (n - k)
less_one n k = omega arith

less_none : (n : ℕ) → (n - 0) ≡ n
less_none n = omega arith

cond_marked : (m : Mark) (b : Bool) (o r : Out) → cond b (marked m o) (marked m r) ≡ marked m (cond b o r)
cond_marked m true o r = refl
cond_marked m false o r = refl

marked_after : (m : Mark) (o : Out) (f : Option ℤ → ℕ → Out) → after (marked m o) f ≡ marked m (after o f)
marked_after m o f = cond_marked m o.is_cut o (behind o.marks (f o.best o.left))

commit_choice : (t : Option (ℕ × ℤ)) (next : Rest) (o : Out) (b : Option ℤ) (n : ℕ) (l : Option run.Left) → committed next (marked (choice t) o) b (suc n) (left_with (choice t) l) ≡ marked (choice t) (committed next o b n l)
commit_choice t next o b n None = refl
commit_choice t next o b n (Some l) = ap (λ k. behind (choice t ∷ l.before) (next l.posted b k)) (less_one n (choices l.before))

after_none : (o : Out) → after o (alternatives [] []) ≡ o
after_none o = elim o.is_cut as (λ d. o.is_cut ≡ d → cond d o (behind o.marks (run.nothing [] o.best o.left)) ≡ o) [
  | true ↦ λ e. refl
  | false ↦ λ e. ap (λ ms. let p : Out = record { marks = ms; best = o.best; left = o.left; is_cut = false } in p) (append-nil o.marks)
      ∙ ap (λ d. let p : Out = record { marks = o.marks; best = o.best; left = o.left; is_cut = d } in p) (sym e)
] refl

module _ (goal : Option Objective) (sets : List Fact → Option ℤ → Option Family) where
  -- a choice is made now, and the rest comes as before with one choice fewer left
  choice_made : (t : Option (ℕ × ℤ)) (o : Out) (b : Option ℤ) (n : ℕ) (os : List Place) → with_places goal sets (marked (choice t) o) b (suc n) os ≡ marked (choice t) (with_places goal sets o b n os)
  choice_made t o b n [] = refl
  choice_made t o b n (ways ws ∷ os) = ap (λ p. with_places goal sets p b (suc n) os) (marked_after (choice t) o (alternatives (rests goal sets (mode os) ws) [])) ∙ choice_made t (after o (alternatives (rests goal sets (mode os) ws) [])) b n os
  choice_made t o b n (gate ts ∷ os) = ap (λ p. with_places goal sets p b (suc n) os) (commit_choice t (doing goal sets (mode os) ts) o b n (first_leaf o.marks)) ∙ choice_made t (committed (doing goal sets (mode os) ts) o b n (first_leaf o.marks)) b n os

  -- the first alternative is entered, and the others stay open
  pub enters : (w : Way) (ws : List Way) (b : Option ℤ) (n : ℕ) (os : List Place) → trying goal sets (w ∷ ws) b (suc n) os ≡ marked (choice w.label) (coming goal sets (down w.tasks) w.posted b n (ways ws ∷ os))
  unfolding coming trying
  enters w ws b n os =
      let o = doing goal sets (mode os) w.tasks w.posted b n in
      let more = alternatives (rests goal sets (mode os) ws) [] in
      ap (λ p. with_places goal sets p b (suc n) os) (marked_after (choice w.label) o more) ∙ choice_made w.label (after o more) b n os

  -- a place without alternatives is none
  pub no_way : (o : Out) (b : Option ℤ) (n : ℕ) (os : List Place) → with_places goal sets o b n (ways [] ∷ os) ≡ with_places goal sets o b n os
  no_way o b n os = ap (λ p. with_places goal sets p b n os) (after_none o)

  -- the last alternative is entered, and no place stays open
  pub enters_last : (w : Way) (b : Option ℤ) (n : ℕ) (os : List Place) → trying goal sets (w ∷ []) b (suc n) os ≡ marked (choice w.label) (coming goal sets (down w.tasks) w.posted b n os)
  unfolding coming trying
  enters_last w b n os = enters w [] b n os ∙ ap (marked (choice w.label)) (no_way (doing goal sets (mode os) w.tasks w.posted b n) b n os)

  -- a choice is due and none is left
  cut_short : (b : Option ℤ) (n : ℕ) (os : List Place) → with_places goal sets (stopped b) b n os ≡ stopped b
  cut_short b n [] = refl
  cut_short b n (ways ws ∷ os) = cut_short b n os
  cut_short b n (gate ts ∷ os) = cut_short b n os

  pub enters_none : (w : Way) (ws : List Way) (b : Option ℤ) (os : List Place) → trying goal sets (w ∷ ws) b zero os ≡ stopped b
  unfolding trying
  enters_none w ws b os = cut_short b zero os

  -- ---- behind a path

  pub back_ends : (P : List Fact) (b : Option ℤ) (n : ℕ) → coming goal sets back P b n [] ≡ coming goal sets ended P b n []
  unfolding coming
  back_ends P b n = refl

  pub back_gate : (ts : List Task) (P : List Fact) (b : Option ℤ) (n : ℕ) (os : List Place) → coming goal sets back P b n (gate ts ∷ os) ≡ coming goal sets back P b n os
  unfolding coming
  back_gate ts P b n os = refl

  pub back_none : (P : List Fact) (b : Option ℤ) (n : ℕ) (os : List Place) → coming goal sets back P b n (ways [] ∷ os) ≡ coming goal sets back P b n os
  unfolding coming
  back_none P b n os = refl

  pub back_tries : (ws : List Way) (P : List Fact) (b : Option ℤ) (n : ℕ) (os : List Place) → coming goal sets back P b n (ways ws ∷ os) ≡ trying goal sets ws b n os
  unfolding coming trying
  back_tries ws P b n os = refl

  -- ---- the end of a path

  at_moment : {P : List Fact} {b : Option ℤ} {n : ℕ} (C : Family) (next : Family → Rest) → sets P b ≡ Some C → within goal sets next P b n ≡ next C P b n
  unfolding within
  at_moment {P} {b} {n} C next e = ap (λ o. entered next o P b n) e

  leaf_made : (P : List Fact) (ms : List Mark) (d : Option ℤ) (k : ℕ) (cuts : Bool) (b : Option ℤ) (n : ℕ) (os : List Place) → mode os ≡ inner →
      with_places goal sets (record { marks = leaf P ∷ ms; best = d; left = k; is_cut = cuts }) b n os ≡ with_places goal sets (doing goal sets (mode (past_gate os)) (follows os) P b n) b n (past_gate os)
  leaf_made P ms d k cuts b n [] h = cc
  leaf_made P ms d k true b n (ways ws ∷ os) h = leaf_made P ms d k true b n os h
  leaf_made P ms d k false b n (ways ws ∷ os) h = let r = alternatives (rests goal sets (mode os) ws) [] d k in leaf_made P (ms ++ r.marks) r.best r.left r.is_cut b n os h
  leaf_made P ms d k cuts b n (gate ts ∷ os) h = ap (λ i. with_places goal sets (doing goal sets (mode os) ts P b i) b n os) (less_none n)

  mark_made : (m : Mark) (o : Out) (b e : Option ℤ) (n k : ℕ) (os : List Place) → mode os ≡ whole → with_places goal sets (marked m o) b n os ≡ marked m (with_places goal sets o e k os)
  mark_made m o b e n k [] h = refl
  mark_made m o b e n k (ways ws ∷ os) h = ap (λ p. with_places goal sets p b n os) (marked_after m o (alternatives (rests goal sets (mode os) ws) [])) ∙ mark_made m (after o (alternatives (rests goal sets (mode os) ws) [])) b e n k os h
  mark_made m o b e n k (gate ts ∷ os) h = cc

  solution_made : (a : List ℤ) (b e : Option ℤ) (n : ℕ) (os : List Place) → mode os ≡ whole →
      with_places goal sets (record { marks = solution a ∷ []; best = e; left = n; is_cut = false }) b n os ≡ marked (solution a) (with_places goal sets (run.nothing [] e n) e n os)
  solution_made a b e n os h = mark_made (solution a) (run.nothing [] e n) b e n n os h

  -- ---- at a moment

  module _ (ts : List Task) (P : List Fact) (b : Option ℤ) (n : ℕ) (os : List Place) where
    module _ (C : Family) (moment : sets P b ≡ Some C) where
      means : (next : Next) → next_step C P n ts ≡ next → Means goal sets (mode os) ts P b n next
      means next e = subst (λ k. Means goal sets (mode os) ts P b n k) e (step_means goal sets (mode os) P b n C moment ts)

      pub down_goes : (w : Way) → next_step C P n ts ≡ go w → coming goal sets (down ts) P b n os ≡ coming goal sets (down w.tasks) w.posted b n os
      unfolding coming
      down_goes w e = ap (λ o. with_places goal sets o b n os) (means (go w) e)

      pub down_dies : next_step C P n ts ≡ nothing → coming goal sets (down ts) P b n os ≡ coming goal sets back P b n os
      unfolding coming
      down_dies e = ap (λ o. with_places goal sets o b n os) (means nothing e)

      pub down_chooses : (ws : List Way) → next_step C P n ts ≡ choose ws → coming goal sets (down ts) P b n os ≡ trying goal sets ws b n os
      unfolding coming trying
      down_chooses ws e = ap (λ o. with_places goal sets o b n os) (means (choose ws) e)

      pub down_commits : (s : Statement) (us : List Task) → next_step C P n ts ≡ commit s us → coming goal sets (down ts) P b n os ≡ coming goal sets (down (act s ∷ [])) P b n (gate us ∷ os)
      unfolding coming
      down_commits s us e = ap (λ o. with_places goal sets o b n os) (means (commit s us) e)

      pub down_spends : next_step C P n ts ≡ st.Next.spent → coming goal sets (down ts) P b n os ≡ coming goal sets c.Turn.spent P b n os
      unfolding coming
      down_spends e = ap (λ o. with_places goal sets o b n os) (means st.Next.spent e) ∙ cut_short b n os

      -- the end of the whole: a solution, and what comes with its value as the best
      pub down_solves : next_step C P n ts ≡ finished → mode os ≡ whole → coming goal sets (down ts) P b n os ≡ coming goal sets (solved (values_of C)) P (best_after goal (values_of C) b) n os
      unfolding coming
      down_solves e h =
          let o : Out = record { marks = solution (values_of C) ∷ []; best = best_after goal (values_of C) b; left = n; is_cut = false } in
          let i : doing goal sets (mode os) ts P b n ≡ o = means finished e ∙ ap (λ m. end_of goal sets m P b n) h ∙ at_moment C (λ F Q d k. record { marks = solution (values_of F) ∷ []; best = best_after goal (values_of F) d; left = k; is_cut = false }) moment in
          ap (λ p. with_places goal sets p b n os) i ∙ solution_made (values_of C) b (best_after goal (values_of C) b) n os h

      -- the end of a statement under `once`: what was opened after it is given up, and what is to be done after it goes on
      pub down_leaves : next_step C P n ts ≡ finished → mode os ≡ inner → coming goal sets (down ts) P b n os ≡ coming goal sets (down (follows os)) P b n (past_gate os)
      unfolding coming
      down_leaves e h =
          let o : Out = record { marks = leaf P ∷ []; best = b; left = n; is_cut = false } in
          let i : doing goal sets (mode os) ts P b n ≡ o = means finished e ∙ ap (λ m. end_of goal sets m P b n) h ∙ at_moment C (λ F Q d k. record { marks = leaf Q ∷ []; best = d; left = k; is_cut = false }) moment in
          ap (λ p. with_places goal sets p b n os) i ∙ leaf_made P [] b n false b n os h

    pub down_fails : sets P b ≡ None → coming goal sets (down ts) P b n os ≡ coming goal sets back P b n os
    unfolding coming
    down_fails e = ap (λ o. with_places goal sets o b n os) (failed_tasks goal sets P b n e (mode os) ts)

  -- the search of a section and then default labelling, from its start
  pub starts : (ts : List Task) (P : List Fact) (b : Option ℤ) (n : ℕ) → coming goal sets (down ts) P b n [] ≡ doing goal sets whole ts P b n
  unfolding coming
  starts ts P b n = refl
