-- What a search will still make, by where it is and by the places that are open.
use Rattle.std.specs.Prelude.{◌≡◌, ℕ, List, [], ◌∷◌, ℤ, Option}
use Rattle.opl_domain.specs.Family.{Family}
use Rattle.opl_expr.specs.Forms.{Fact}
use Rattle.opl_trace.specs.Objective.{Objective}
use Rattle.opl_trace.specs.Run as run
use Rattle.opl_trace.specs.Run.{Mark, Out, stopped, marked, behind, after, alternatives, committed, first_leaf, choices}
use Rattle.opl_trace.specs.Run.Mark.{solution}
use Rattle.opl_trace.specs.Marks as trace
use Rattle.opl_steps.specs.Tasks.{Task, End, doing}
use Rattle.opl_steps.specs.Tasks.End.{whole, inner}
use Rattle.opl_steps.specs.Steps.{Way}
use Rattle.opl_steps.specs.Made.{rests}

-- alternatives that are still to be entered; the end of a statement under `once`, and what is to be done after its first Leaf
pub data Place : Type 0 where
  ways : List Way → Place
  gate : List Task → Place

-- what a path makes at its end, by the places that are open; the place opened last stands first
abbrev pub mode : List Place → End
mode [] = whole
mode (ways ws ∷ os) = mode os
mode (gate ts ∷ os) = inner

-- a Leaf gives up the places opened after the last gate, and the gate
abbrev pub past_gate : List Place → List Place
past_gate [] = []
past_gate (ways ws ∷ os) = past_gate os
past_gate (gate ts ∷ os) = os

-- what is to be done after the last gate
abbrev pub follows : List Place → List Task
follows [] = []
follows (ways ws ∷ os) = follows os
follows (gate ts ∷ os) = ts

-- where a search is: at a moment with this to do; behind a path; at a solution; at its end; at a choice that can't be made
pub data Turn : Type 0 where
  down : List Task → Turn
  back : Turn
  solved : List ℤ → Turn
  ended : Turn
  spent : Turn

-- o makes n choices and no solution, and then what p makes
pub record Chooses (n : ℕ) (o p : Out) : Type 0 where
  pub marks : List Mark
  pub joins : o ≡ behind marks p
  pub made : choices marks ≡ n
  pub solves_none : trace.solved marks ≡ []

module _ (goal : Option Objective) (sets : List Fact → Option ℤ → Option Family) where
  -- what is still to come, where o is what comes of the place at which the search is, with the best value b and n choices left
  abbrev pub with_places : Out → Option ℤ → ℕ → List Place → Out
  with_places o b n [] = o
  with_places o b n (ways ws ∷ os) = with_places (after o (alternatives (rests goal sets (mode os) ws) [])) b n os
  with_places o b n (gate ts ∷ os) = with_places (committed (doing goal sets (mode os) ts) o b n (first_leaf o.marks)) b n os

  -- what comes from a turn on, with the constraints P
  unfoldable pub coming : Turn → List Fact → Option ℤ → ℕ → List Place → Out
  coming (down ts) P b n os = with_places (doing goal sets (mode os) ts P b n) b n os
  coming back P b n os = with_places (run.nothing [] b n) b n os
  coming (solved vs) P b n os = marked (solution vs) (with_places (run.nothing [] b n) b n os)
  coming ended P b n os = run.nothing [] b n
  coming spent P b n os = stopped b

  -- what comes where these alternatives are to be tried
  unfoldable pub trying : List Way → Option ℤ → ℕ → List Place → Out
  trying ws b n os = with_places (alternatives (rests goal sets (mode os) ws) [] b n) b n os
