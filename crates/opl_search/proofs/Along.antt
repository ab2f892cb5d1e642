-- A machine's answers along its trace.
use Rattle.std.proofs.Common.{◌≡◌, ◌∙◌, ℕ, suc, ◌+◌, ◌-◌, ◌≤◌, Bool, true, false, cond, refl, List, [], ◌∷◌, ◌++◌, length, length-append, ℤ, ap, sym, subst, arith}
use Rattle.std.specs.Prelude.{Option, Some, None, Ok, Err}
use Rattle.opl_domain.specs.declared.fault.OutOfMemory.{OutOfMemory}
use Rattle.opl_expr.specs.declared.model.Core.{Core}
use Rattle.opl_expr.specs.Options.{lift1}
use Rattle.opl_expr.specs.Solutions.{declared, base}
use Rattle.opl_trace.specs.Objective.{best_after}
use Rattle.opl_trace.specs.Run as run
use Rattle.opl_trace.specs.Run.Mark.{choice, leaf, solution, cut}
use Rattle.opl_trace.specs.Run.{Mark, Out, marked, behind, stopped, choices, values_of}
use Rattle.opl_trace.specs.Marks.{objective, section, trace, core_trace, solved}
use Rattle.opl_trace.proofs.Prefixes.{choices_counted}
use Rattle.opl_turns.specs.Coming.{coming}
use Rattle.opl_turns.proofs.Chosen.{choices_joined, solved_joined, behind_joined}
use Rattle.opl_search.specs.declared.machine.Last.{Last}
use Rattle.opl_search.specs.declared.machine.Last.TheVariants as last
use Rattle.opl_search.specs.declared.machine.Way.{Way}
use Rattle.opl_search.specs.declared.search.Open.{Open}
use Rattle.opl_search.specs.declared.search.Turn.TheVariants as at
use Rattle.opl_search.specs.declared.search.Step1.{Step1}
use Rattle.opl_search.specs.declared.search.Step1.TheVariants as step
use Rattle.opl_search.specs.States.{State, beginning}
use Rattle.opl_search.specs.Pending.{comes, Goes, leaves}
use Rattle.opl_search.specs.Advance.{Seen, start_of, CanStart}
use Rattle.opl_search.specs.Machines.{Searching, Behind, Begins, Stands, StandsEmpty, IsMachine, IsSolution, IsEnd, Comes, GoesOn, is_first, has_empty_set, CanAsk, Asked, nth_solution, searching, last_of, count_of}
use Rattle.opl_search.proofs.Empties.{empty_ends}

-- ---- marks

nth_behind : (made : List Mark) (a : List ℤ) (rest : List Mark) → nth_solution (made ++ solution a ∷ rest) (length (solved made)) ≡ Some (choices made, a)
nth_behind [] a rest = refl
nth_behind (choice l ∷ ms) a rest = ap (lift1 (λ p. (suc p.0, p.1))) (nth_behind ms a rest)
nth_behind (leaf P ∷ ms) a rest = nth_behind ms a rest
nth_behind (solution b ∷ ms) a rest = nth_behind ms a rest
nth_behind (cut ∷ ms) a rest = nth_behind ms a rest

nth_none : (made : List Mark) → nth_solution (made ++ []) (length (solved made)) ≡ None
nth_none [] = refl
nth_none (choice l ∷ ms) = ap (lift1 (λ p. (suc p.0, p.1))) (nth_none ms)
nth_none (leaf P ∷ ms) = nth_none ms
nth_none (solution b ∷ ms) = nth_none ms
nth_none (cut ∷ ms) = nth_none ms

done_solution : (s : State) (os : List Open) (n : ℕ) → comes s os n (at.Done step.Solution) ≡ marked (solution (values_of s.sets)) (comes s os n at.Back)
unfolding coming
done_solution s os n = refl

done_end : (s : State) (os : List Open) (n : ℕ) → comes s os n (at.Done step.End) ≡ run.nothing [] s.best n
unfolding coming
done_end s os n = refl

done_spent : (s : State) (os : List Open) (n : ℕ) → comes s os n (at.Done step.Spent) ≡ stopped s.best
unfolding coming
done_spent s os n = refl

-- ---- before an answer

pub record Prior (core : Core) (way : Way) (budget solutions : ℕ) (begins : Bool) (s : Seen) : Type 0 where
  pub made : List Mark
  pub joins : core_trace way.default_search core budget ≡ behind made (start_of begins s)
  pub chosen : choices made + s.left ≡ budget
  pub found : length (solved made) ≡ solutions
  pub few : solutions + s.left + cond begins 1 0 ≤ budget + 1

prior_begins : (core : Core) (way : Way) (budget solutions : ℕ) (s : Seen) → section way.default_search core ≡ None → Begins core budget solutions s → Prior core way budget solutions true s
prior_begins core way budget solutions s d b = record {
  made = [];
  joins = ap (λ q. trace (objective core) (declared core) q (base core) budget) d ∙ ap (λ k. core_trace true k budget) (sym (ap (λ t. t.core) b.state)) ∙ ap (core_trace true s.state.core) (sym b.left);
  chosen = omega (arith, b.left);
  found = sym b.found;
  few = omega (arith, b.left, b.found);
}

prior_behind : (core : Core) (way : Way) (budget solutions : ℕ) (s : Seen) → Behind core way budget solutions s → Prior core way budget solutions false s
prior_behind core way budget solutions s b = record { made = b.made; joins = b.joins; chosen = b.chosen; found = b.found; few = omega (arith, b.few) }

-- ---- an answer

module _ (core : Core) (way : Way) (budget solutions : ℕ) (l : Last) (begins : Bool) (s n : Seen) (d : section way.default_search core ≡ None) (same : s.state.core ≡ core) (p : Prior core way budget solutions begins s) where
  module _ (e : Step1) (g : Goes s.state (start_of begins s) s.left n.state n.opens n.left (at.Done e)) where
    made : List Mark
    made = p.made ++ g.makes.marks

    whole : core_trace way.default_search core budget ≡ behind made (comes n.state n.opens n.left (at.Done e))
    unfolding made
    whole = p.joins ∙ ap (behind p.made) g.makes.joins ∙ sym (behind_joined p.made g.makes.marks (comes n.state n.opens n.left (at.Done e)))

    counted : choices made + n.left ≡ budget
    unfolding made
    counted = omega (arith, choices_joined p.made g.makes.marks, p.chosen, g.makes.made, g.fewer)

    numbered : length (solved made) ≡ solutions
    unfolding made
    numbered = ap (length {A = List ℤ}) (solved_joined p.made g.makes.marks) ∙ length-append (solved p.made) (solved g.makes.marks) ∙ (let z = ap (length {A = List ℤ}) g.makes.solves_none in omega (arith, p.found, z))

  -- the next solution
  module _ (g : Goes s.state (start_of begins s) s.left n.state n.opens n.left (at.Done step.Solution)) (fresh : leaves (at.Done step.Solution) + n.left ≤ cond begins 1 0 + s.left) where
    solved_marks : (core_trace way.default_search core budget).marks ≡ made step.Solution g ++ solution (values_of n.state.sets) ∷ (comes n.state n.opens n.left at.Back).marks
    solved_marks = ap (λ o. o.marks) (whole step.Solution g ∙ ap (behind (made step.Solution g)) (done_solution n.state n.opens n.left))

    pub is_solution : IsSolution (searching core way budget solutions l (Some s)) (searching core way budget (solutions + 1) last.Solution (Some n))
    is_solution = record {
      next = ap (λ ms. nth_solution ms solutions) solved_marks
          ∙ ap (nth_solution (made step.Solution g ++ solution (values_of n.state.sets) ∷ (comes n.state n.opens n.left at.Back).marks)) (sym (numbered step.Solution g))
          ∙ nth_behind (made step.Solution g) (values_of n.state.sets) (comes n.state n.opens n.left at.Back).marks
          ∙ (let i : choices (made step.Solution g) ≡ budget - n.left = omega (arith, counted step.Solution g) in ap (λ k. Some (k, values_of n.state.sets)) i);
      one_more = omega arith;
      best = g.best ∙ ap (λ k. best_after (objective k) (values_of n.state.sets) s.state.best) same;
      last = refl;
    }

    pub stays_machine : IsMachine core way budget (solutions + 1) last.Solution (Some n)
    stays_machine =
        let made_all = made step.Solution g in (
          d,
          omega (arith, counted step.Solution g),
          record {
            made = made_all ++ solution (values_of n.state.sets) ∷ [];
            joins = whole step.Solution g ∙ ap (behind made_all) (done_solution n.state n.opens n.left) ∙ sym (behind_joined made_all (solution (values_of n.state.sets) ∷ []) (comes n.state n.opens n.left at.Back));
            chosen = omega (arith, choices_joined made_all (solution (values_of n.state.sets) ∷ []), counted step.Solution g);
            found = ap (length {A = List ℤ}) (solved_joined made_all (solution (values_of n.state.sets) ∷ [])) ∙ length-append (solved made_all) (values_of n.state.sets ∷ []) ∙ ap (λ k. k + 1) (numbered step.Solution g);
            few = few_left solutions s.left n.left budget begins fresh p.few;
            same = g.same ∙ same;
            opens = g.opens;
            long = g.turn ∙ ap (λ k. length (declared k)) (g.same ∙ same);
          },
        )
      where
        few_left : (solutions left now budget : ℕ) (begins : Bool) → 1 + now ≤ cond begins 1 0 + left → solutions + left + cond begins 1 0 ≤ budget + 1 → (solutions + 1) + now ≤ budget + 1
        few_left solutions left now budget true h k = omega (arith, h, k)
        few_left solutions left now budget false h k = omega (arith, h, k)

  -- the end
  module _ (g : Goes s.state (start_of begins s) s.left n.state n.opens n.left (at.Done step.End)) where
    ended : core_trace way.default_search core budget ≡ behind (made step.End g) (run.nothing [] n.state.best n.left)
    ended = whole step.End g ∙ ap (behind (made step.End g)) (done_end n.state n.opens n.left)

    pub is_end : IsEnd (searching core way budget solutions l (Some s)) (searching core way budget solutions last.End (Some n)) false last.End
    is_end = record {
      next = ap (λ o. nth_solution o.marks solutions) ended ∙ ap (nth_solution (made step.End g ++ [])) (sym (numbered step.End g)) ∙ nth_none (made step.End g);
      cut = ap (λ o. o.is_cut) ended;
      choices = let i = choices_joined (made step.End g) [] in let j : budget - n.left ≡ choices (made step.End g ++ []) = omega (arith, i, counted step.End g) in j ∙ sym (ap (λ o. choices o.marks) ended);
      solutions = refl;
      best = g.best;
      last = refl;
    }

  -- a choice that can't be made
  module _ (g : Goes s.state (start_of begins s) s.left n.state n.opens n.left (at.Done step.Spent)) where
    stops : core_trace way.default_search core budget ≡ behind (made step.Spent g) (stopped n.state.best)
    stops = whole step.Spent g ∙ ap (behind (made step.Spent g)) (done_spent n.state n.opens n.left)

    spent_choices : budget - n.left ≡ choices (core_trace way.default_search core budget).marks
    spent_choices = let i = choices_joined (made step.Spent g) [] in let j : budget - n.left ≡ choices (made step.Spent g ++ []) = omega (arith, i, counted step.Spent g) in j ∙ sym (ap (λ o. choices o.marks) stops)

    all_choices : budget - n.left ≡ budget
    all_choices =
        let c = choices_counted (objective core) (declared core) (section way.default_search core) (base core) budget in
        let z : (core_trace way.default_search core budget).left ≡ 0 = ap (λ o. o.left) stops in
        omega (arith, c, z, spent_choices)

    pub is_spent : Comes (searching core way budget solutions l (Some s)) (searching core way budget solutions last.Spent (Some n)) (Ok step.Spent)
    is_spent = (
      record {
        next = ap (λ o. nth_solution o.marks solutions) stops ∙ ap (nth_solution (made step.Spent g ++ [])) (sym (numbered step.Spent g)) ∙ nth_none (made step.Spent g);
        cut = ap (λ o. o.is_cut) stops;
        choices = spent_choices;
        solutions = refl;
        best = g.best;
        last = refl;
      },
      all_choices,
    )

-- ---- a call, by the last answer

prior : (core : Core) (way : Way) (budget solutions : ℕ) (begins : Bool) (s : Seen) (l : Last) → GoesOn l → begins ≡ is_first l → section way.default_search core ≡ None → Stands core way budget solutions s l → Prior core way budget solutions begins s
prior core way budget solutions begins s (last.Nothing) g e d h = subst (λ b. Prior core way budget solutions b s) (sym e) (prior_begins core way budget solutions s d h)
prior core way budget solutions begins s (last.Solution) g e d h = subst (λ b. Prior core way budget solutions b s) (sym e) (prior_behind core way budget solutions s h)
prior core way budget solutions begins s (last.End) g e d h = absurd g
prior core way budget solutions begins s (last.Spent) g e d h = absurd g
prior core way budget solutions begins s (last.OutOfMemory) g e d h = absurd g

core_same : (core : Core) (way : Way) (budget solutions : ℕ) (s : Seen) (l : Last) → GoesOn l → Stands core way budget solutions s l → s.state.core ≡ core
core_same core way budget solutions s (last.Nothing) g h = ap (λ t. t.core) h.state
core_same core way budget solutions s (last.Solution) g h = h.same
core_same core way budget solutions s (last.End) g h = absurd g
core_same core way budget solutions s (last.Spent) g h = absurd g
core_same core way budget solutions s (last.OutOfMemory) g h = absurd g

pub can_ask : (core : Core) (way : Way) (budget solutions : ℕ) (begins : Bool) (l : Last) (o : Option Seen) → GoesOn l → begins ≡ is_first l → IsMachine core way budget solutions l o → CanAsk begins o
can_ask core way budget solutions begins l None g e m = tt
can_ask core way budget solutions begins l (Some s) g e m = subst (λ b. CanStart b s) (sym e) (by_last l g m.2)
  where
    by_last : (l : Last) → GoesOn l → Stands core way budget solutions s l → CanStart (is_first l) s
    by_last (last.Nothing) g h = (h.state ∙ ap beginning (sym (ap (λ t. t.core) h.state)), h.opens)
    by_last (last.Solution) g h = h.opens
    by_last (last.End) g h = absurd g
    by_last (last.Spent) g h = absurd g
    by_last (last.OutOfMemory) g h = absurd g

-- each solution but the first follows a choice
pub solutions_few : (core : Core) (way : Way) (budget solutions : ℕ) (l : Last) (o : Option Seen) → GoesOn l → IsMachine core way budget solutions l o → solutions ≤ budget + 1
solutions_few core way budget solutions l None g m = by_last l g m.1
  where
    by_last : (l : Last) → GoesOn l → StandsEmpty core solutions l → solutions ≤ budget + 1
    by_last (last.Nothing) g h = let z = h.1 in omega (arith, z)
    by_last (last.Solution) g h = absurd h
    by_last (last.End) g h = absurd g
    by_last (last.Spent) g h = absurd g
    by_last (last.OutOfMemory) g h = absurd g
solutions_few core way budget solutions l (Some s) g m = by_last l g m.2
  where
    by_last : (l : Last) → GoesOn l → Stands core way budget solutions s l → solutions ≤ budget + 1
    by_last (last.Nothing) g h = let z = h.found in omega (arith, z)
    by_last (last.Solution) g h = let z = h.few in omega (arith, z)
    by_last (last.End) g h = absurd g
    by_last (last.Spent) g h = absurd g
    by_last (last.OutOfMemory) g h = absurd g

module _ (core : Core) (way : Way) (budget solutions : ℕ) (begins : Bool) (l : Last) (g : GoesOn l) (e : begins ≡ is_first l) where
  pub answers_solution : (o p : Option Seen) → IsMachine core way budget solutions l o → Asked o begins p (Ok step.Solution) →
      Comes (searching core way budget solutions l o) (searching core way budget (solutions + 1) last.Solution p) (Ok step.Solution) × IsMachine core way budget (solutions + 1) last.Solution p
  answers_solution None None m a = cc
  answers_solution None (Some n) m a = absurd a
  answers_solution (Some s) None m a = absurd a
  answers_solution (Some s) (Some n) m a =
      let p = prior core way budget solutions begins s l g e m.0 m.2 in
      let same = core_same core way budget solutions s l g m.2 in
      (is_solution core way budget solutions l begins s n m.0 same p a.1.goes a.1.leaves, stays_machine core way budget solutions l begins s n m.0 same p a.1.goes a.1.leaves)

  empty_last : (l : Last) → GoesOn l → StandsEmpty core solutions l → (has_empty_set core ≡ true) × (solutions ≡ 0)
  empty_last (last.Nothing) g h = h
  empty_last (last.Solution) g h = absurd h
  empty_last (last.End) g h = absurd g
  empty_last (last.Spent) g h = absurd g
  empty_last (last.OutOfMemory) g h = absurd g

  pub answers_end : (o p : Option Seen) → IsMachine core way budget solutions l o → Asked o begins p (Ok step.End) →
      Comes (searching core way budget solutions l o) (searching core way budget solutions last.End p) (Ok step.End) × IsMachine core way budget solutions last.End p
  answers_end None None m a = let z = empty_last l g m.1 in (empty_ends core way budget solutions l m.0 z.0 z.1, (m.0, tt))
  answers_end None (Some n) m a = absurd a
  answers_end (Some s) None m a = absurd a
  answers_end (Some s) (Some n) m a =
      let p = prior core way budget solutions begins s l g e m.0 m.2 in
      let same = core_same core way budget solutions s l g m.2 in
      let left = a.0 in let was = m.1 in
      (is_end core way budget solutions l begins s n m.0 same p a.1.goes, (m.0, omega (arith, left, was), tt))

  pub answers_spent : (o p : Option Seen) → IsMachine core way budget solutions l o → Asked o begins p (Ok step.Spent) →
      Comes (searching core way budget solutions l o) (searching core way budget solutions last.Spent p) (Ok step.Spent) × IsMachine core way budget solutions last.Spent p
  answers_spent None None m a = cc
  answers_spent None (Some n) m a = absurd a
  answers_spent (Some s) None m a = absurd a
  answers_spent (Some s) (Some n) m a =
      let p = prior core way budget solutions begins s l g e m.0 m.2 in
      let same = core_same core way budget solutions s l g m.2 in
      let left = a.0 in let was = m.1 in
      (is_spent core way budget solutions l begins s n m.0 same p a.1.goes, (m.0, omega (arith, left, was), tt))

  pub answers_failed : (o p : Option Seen) (x : OutOfMemory) → IsMachine core way budget solutions l o → Asked o begins p (Err x) → IsMachine core way budget solutions last.OutOfMemory p
  answers_failed None None x m a = cc
  answers_failed None (Some n) x m a = absurd a
  answers_failed (Some s) None x m a = absurd a
  answers_failed (Some s) (Some n) x m a = let left = a in let was = m.1 in (m.0, omega (arith, left, was), tt)

  pub answers : (a : Step1) (o p : Option Seen) → IsMachine core way budget solutions l o → Asked o begins p (Ok a) →
      Comes (searching core way budget solutions l o) (searching core way budget (solutions + count_of a) (last_of a) p) (Ok a) × IsMachine core way budget (solutions + count_of a) (last_of a) p
  answers (step.Solution) o p m h = answers_solution o p m h
  answers (step.End) o p m h =
      let z : solutions ≡ solutions + 0 = omega arith in
      subst (λ k. Comes (searching core way budget solutions l o) (searching core way budget k last.End p) (Ok step.End) × IsMachine core way budget k last.End p) z (answers_end o p m h)
  answers (step.Spent) o p m h =
      let z : solutions ≡ solutions + 0 = omega arith in
      subst (λ k. Comes (searching core way budget solutions l o) (searching core way budget k last.Spent p) (Ok step.Spent) × IsMachine core way budget k last.Spent p) z (answers_spent o p m h)

  -- the same for a machine that is told by equations
  pub answers_comes : (a : Step1) (o p : Option Seen) (m : Searching) (k : ℕ) (now : Last) → IsMachine core way budget solutions l o → Asked o begins p (Ok a) →
      searching core way budget solutions l o ≡ m → k ≡ count_of a → now ≡ last_of a → Comes m (searching core way budget (solutions + k) now p) (Ok a)
  answers_comes a o p m k now h asked was counts told =
      subst (λ n. Comes n (searching core way budget (solutions + k) now p) (Ok a)) was
      (subst (λ j. Comes (searching core way budget solutions l o) (searching core way budget (solutions + k) j p) (Ok a)) (sym told)
      (subst (λ j. Comes (searching core way budget solutions l o) (searching core way budget (solutions + j) (last_of a) p) (Ok a)) (sym counts) (answers a o p h asked).0))

-- ---- at a solution

pub no_value : (core : Core) (way : Way) (budget solutions : ℕ) (l : Last) → IsMachine core way budget solutions l None → l ≡ last.Solution → ⊥
no_value core way budget solutions l m e = subst (StandsEmpty core solutions) e m.1

pub value_long : (core : Core) (way : Way) (budget solutions : ℕ) (l : Last) (s : Seen) → IsMachine core way budget solutions l (Some s) → l ≡ last.Solution → length s.state.sets ≡ length (declared core)
value_long core way budget solutions l s m e = (subst (Stands core way budget solutions s) e m.2).long
