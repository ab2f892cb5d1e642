-- How far a search is shown, and what is left to be shown.
use Rattle.std.proofs.Common.{◌≡◌, refl, sym, ap, ◌∙◌, subst, ℕ, zero, suc, ◌+◌, ◌≤◌, Bool, true, false, cond, List, [], ◌∷◌, drop, length, ℤ, Option, Some, None, Ok, arith}
use Rattle.opl_expr.specs.Options.{lift1}
use Rattle.opl_expr.specs.Solutions.{declared}
use Rattle.opl_trace.specs.Objective.{Objective, best_after}
use Rattle.opl_trace.specs.Run.Mark.{choice, leaf, solution, cut}
use Rattle.opl_trace.specs.Run.{Mark, choices}
use Rattle.opl_trace.specs.Marks.{objective, solved}
use Rattle.opl_search.specs.Machines.{Searching, GoesOn, IsSolution, IsEnd, nth_solution, trace_of}
use Rattle.opl_search.specs.declared.machine.Last.{Last as MachineLast}
use Rattle.opl_search.specs.declared.machine.Last.TheVariants as at
use Rattle.opl_show.specs.declared.ending.Last.{Last}
use Rattle.opl_show.specs.declared.ending.Last.TheVariants as last
use Rattle.opl_solve.specs.Answers.{IsBefore, IsSame, Turns, is_met}
use Rattle.opl_solve.specs.Texts.{best_of, choices_made, choices_until, ending, found, goal_value, last_from, value_of}
use Rattle.opl_solve.proofs.Limits.{IsWithin, all-made, found-first, found-no-more, found-none, limited, limited-made, made-before, not-limited, some_longer, within-more, within-none}
use Rattle.opl_solve.proofs.Long.{found_long}

-- what is left where the solution at a place is known, or that there is none
abbrev Leaves : List (List ℤ) → ℕ → Option (ℕ × List ℤ) → Type 0
Leaves as' k None = drop k as' ≡ []
Leaves as' k (Some p) = drop k as' ≡ p.1 ∷ drop (suc k) as'

lifted_leaves : (as' : List (List ℤ)) (k : ℕ) (o : Option (ℕ × List ℤ)) → Leaves as' k o → Leaves as' k (lift1 (λ p. (suc p.0, p.1)) o)
lifted_leaves as' k None h = h
lifted_leaves as' k (Some p) h = h

further_leaves : (a : List ℤ) (as' : List (List ℤ)) (k : ℕ) (o : Option (ℕ × List ℤ)) → Leaves as' k o → Leaves (a ∷ as') (suc k) o
further_leaves a as' k None h = h
further_leaves a as' k (Some p) h = h

nth_leaves : (ms : List Mark) (k : ℕ) → Leaves (solved ms) k (nth_solution ms k)
nth_leaves [] zero = refl
nth_leaves [] (suc k) = refl
nth_leaves (choice l ∷ ms) k = lifted_leaves (solved ms) k (nth_solution ms k) (nth_leaves ms k)
nth_leaves (leaf P ∷ ms) k = nth_leaves ms k
nth_leaves (solution a ∷ ms) zero = refl
nth_leaves (solution a ∷ ms) (suc k) = further_leaves a (solved ms) k (nth_solution ms k) (nth_leaves ms k)
nth_leaves (cut ∷ ms) k = nth_leaves ms k

found_first : (ms : List Mark) (k c : ℕ) (a : List ℤ) → nth_solution ms k ≡ Some (c, a) → drop k (solved ms) ≡ a ∷ drop (suc k) (solved ms)
found_first ms k c a e = subst (Leaves (solved ms) k) e (nth_leaves ms k)

found_none : (ms : List Mark) (k : ℕ) → nth_solution ms k ≡ None → drop k (solved ms) ≡ []
found_none ms k e = subst (Leaves (solved ms) k) e (nth_leaves ms k)

-- the solutions of the search of a machine up to a limit, and those of them behind k others
abbrev pub found_of : Option ℕ → Searching → List (List ℤ)
found_of limit m = found limit (trace_of m)

abbrev pub left_of : Option ℕ → Searching → ℕ → List (List ℤ)
left_of limit m k = drop k (found_of limit m)

-- a machine stands behind k solutions, of which this is the last
pub record Standing (limit : Option ℕ) (m n : Searching) (k : ℕ) (latest : Option (List ℤ)) : Type 0 where
  pub goes : GoesOn n.last
  pub same : IsSame m n
  pub count : n.solutions ≡ k
  pub within : IsWithin limit k
  pub made : n.choices ≡ choices_until k (trace_of m).marks
  pub enough : k ≤ length (solved (trace_of m).marks)
  pub latest_is : last_from latest (left_of limit m k) ≡ last_from None (found_of limit m)
  pub best : n.best ≡ value_of (objective m.core) latest

-- a search has ended, and none of its solutions is left
pub record Ends (limit : Option ℕ) (m p : Searching) (k : ℕ) (l : Last) : Type 0 where
  pub none : left_of limit m k ≡ []
  pub ending_is : l ≡ ending limit (trace_of m)
  pub choices_are : p.choices ≡ choices_made limit (trace_of m)
  pub best : p.best ≡ best_of (objective m.core) (found_of limit m)

same_trace : (m n : Searching) → IsSame m n → trace_of n ≡ trace_of m
same_trace m n s = rw (s.0, s.1, s.2) refl

same_then : (m n p : Searching) → IsSame m n → IsSame n p → IsSame m p
same_then m n p s t = (t.0 ∙ s.0, t.1 ∙ s.1, t.2 ∙ s.2)

-- a solution has a value for each variable
pub solution-long : (n p : Searching) → IsSame n p → IsSolution n p → length p.values ≡ length (declared p.core)
solution-long n p same s = found_long n.way.default_search n.core n.budget n.solutions p.choices p.values s.next ∙ ap (λ c. length (declared c)) (sym same.0)

plus-one : (k : ℕ) → suc k ≡ k + 1
plus-one k = omega arith

-- an answer, by what it is
pub turn_is : (limit : Option ℕ) (k : ℕ) (n p : Searching) (o e : Option Last) → o ≡ e → Turns limit k n p (Ok o) → Turns limit k n p (Ok e)
turn_is limit k n p o e is h = subst (λ (a : Option Last). Turns limit k n p (Ok a)) is h

-- the best value after a solution is its own, where it was that of the solution before
value_after : (goal : Option Objective) (a : List ℤ) (b : Option ℤ) (latest : Option (List ℤ)) → b ≡ value_of goal latest → best_after goal a b ≡ goal_value goal a
value_after None a b None e = e
value_after None a b (Some ns) e = e
value_after (Some g) a b latest e = refl

pub standing-start : (limit : Option ℕ) (m : Searching) → IsBefore m → Standing limit m m 0 None
standing-start limit m b = record {
  goes = subst GoesOn (sym b.0) tt;
  same = (refl, refl, refl);
  count = b.1;
  within = within-none limit;
  made = b.2;
  enough = omega arith;
  latest_is = refl;
  best = b.3;
}

module _ (limit : Option ℕ) (m n p : Searching) (k : ℕ) (latest : Option (List ℤ)) (g : Standing limit m n k latest) where
  nth_of : (o : Option (ℕ × List ℤ)) → nth_solution (trace_of n).marks n.solutions ≡ o → nth_solution (trace_of m).marks k ≡ o
  nth_of o e = ap (λ i. nth_solution (trace_of m).marks i) (sym g.count) ∙ ap (λ t. nth_solution t.marks n.solutions) (sym (same_trace m n g.same)) ∙ e

  -- there is another solution
  module _ (met : is_met limit k ≡ false) (s : IsSolution n p) where
    nth : nth_solution (trace_of m).marks k ≡ Some (p.choices, p.values)
    nth = nth_of (Some (p.choices, p.values)) s.next

    first : drop k (solved (trace_of m).marks) ≡ p.values ∷ drop (suc k) (solved (trace_of m).marks)
    first = found_first (trace_of m).marks k p.choices p.values nth

    first-left : left_of limit m k ≡ p.values ∷ left_of limit m (suc k)
    first-left = found-first (trace_of m) k limit p.values met first

    pub value-is : p.best ≡ goal_value (objective m.core) p.values
    value-is = s.best ∙ ap (λ c. best_after (objective c) p.values n.best) g.same.0 ∙ value_after (objective m.core) p.values n.best latest g.best

    standing_one_more : IsSame n p → Standing limit m p (suc k) (Some p.values)
    standing_one_more t = record {
      goes = subst GoesOn (sym s.last) tt;
      same = same_then m n p g.same t;
      count = s.one_more ∙ ap (λ i. suc i) g.count;
      within = within-more limit k met;
      made = sym (made-before (trace_of m).marks k p.choices p.values nth);
      enough = some_longer k p.values (drop (suc k) (solved (trace_of m).marks)) (solved (trace_of m).marks) first;
      latest_is = ap (last_from latest) (sym first-left) ∙ g.latest_is;
      best = value-is;
    }

    pub standing-step : IsSame n p → Standing limit m p (k + 1) (Some p.values)
    standing-step t = subst (λ i. Standing limit m p i (Some p.values)) (plus-one k) (standing_one_more t)

    pub left-step : left_of limit m k ≡ p.values ∷ left_of limit m (k + 1)
    left-step = first-left ∙ ap (λ i. p.values ∷ left_of limit m i) (plus-one k)

  -- there is none
  latest_of : left_of limit m k ≡ [] → latest ≡ last_from None (found_of limit m)
  latest_of none = ap (last_from latest) (sym none) ∙ g.latest_is

  best_is : p.best ≡ n.best → left_of limit m k ≡ [] → p.best ≡ best_of (objective m.core) (found_of limit m)
  best_is e none = e ∙ g.best ∙ ap (value_of (objective m.core)) (latest_of none)

  at_limit : is_met limit k ≡ true → p ≡ n → Ends limit m p k last.Limit
  at_limit met same =
      let none = found-no-more (trace_of m) k limit met in record {
        none = none;
        ending_is = rw (limited (trace_of m) k limit met g.enough) refl;
        choices_are = ap (λ q. q.choices) same ∙ g.made ∙ limited-made (trace_of m) k limit met g.within;
        best = best_is (ap (λ q. q.best) same) none;
      }

  module _ (is_cut : Bool) (l : MachineLast) (met : is_met limit k ≡ false) (s : IsEnd n p is_cut l) where
    no_other : drop k (solved (trace_of m).marks) ≡ []
    no_other = found_none (trace_of m).marks k (nth_of None s.next)

    cut_is : is_cut ≡ (trace_of m).is_cut
    cut_is = sym s.cut ∙ ap (λ o. o.is_cut) (same_trace m n g.same)

    at_end : Ends limit m p k (cond is_cut last.Spent last.End)
    at_end =
        let none = found-none (trace_of m) k limit no_other in record {
          none = none;
          ending_is = rw (not-limited (trace_of m) k limit met no_other, cut_is) refl;
          choices_are = s.choices ∙ ap (λ o. choices o.marks) (same_trace m n g.same) ∙ all-made (trace_of m) k limit met no_other;
          best = best_is s.best none;
        }

  pub standing-ends : (l : Last) → Turns limit k n p (Ok (Some l)) → Ends limit m p k l
  standing-ends (last.End) t = at_end false at.End t.0 t.1
  standing-ends (last.Limit) t = at_limit t.0 t.1
  standing-ends (last.Spent) t = at_end true at.Spent t.0 t.1

  pub latest-is : (l : Last) → Ends limit m p k l → latest ≡ last_from None (found_of limit m)
  latest-is l e = latest_of e.none
