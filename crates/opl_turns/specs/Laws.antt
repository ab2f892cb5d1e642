-- What one turn makes of what is still to come.
use Rattle.std.specs.Prelude.{◌≡◌, ℕ, zero, suc, List, [], ◌∷◌, ℤ, Option, Some, None}
use Rattle.opl_domain.specs.Family.{Family}
use Rattle.opl_expr.specs.Forms.{Fact}
use Rattle.opl_trace.specs.Objective.{Objective, best_after}
use Rattle.opl_trace.specs.Run.{marked, stopped, values_of}
use Rattle.opl_trace.specs.Run.Mark.{choice}
use Rattle.opl_trace.specs.Statements.{Statement}
use Rattle.opl_steps.specs.Tasks.{Task, doing}
use Rattle.opl_steps.specs.Tasks.End.{whole, inner}
use Rattle.opl_steps.specs.Tasks.Task.{act}
use Rattle.opl_steps.specs.Steps.{Way, next_step}
use Rattle.opl_steps.specs.Steps.Next.{finished, nothing, go, choose, commit}
use Rattle.opl_steps.specs.Steps as next
use Rattle.opl_turns.specs.Coming.{Place, mode, past_gate, follows, coming, trying}
use Rattle.opl_turns.specs.Coming.Place.{ways, gate}
use Rattle.opl_turns.specs.Coming.Turn.{down, back, solved, ended}
use Rattle.opl_turns.specs.Coming as turn

-- at a moment without sets the search goes back; at one with sets it does what comes next
pub record MomentsTurn (goal : Option Objective) (sets : List Fact → Option ℤ → Option Family) (ts : List Task) (P : List Fact) (b : Option ℤ) (n : ℕ) (os : List Place) : Type 0 where
  pub fails : sets P b ≡ None → coming goal sets (down ts) P b n os ≡ coming goal sets back P b n os
  pub goes : (C : Family) (w : Way) → sets P b ≡ Some C → next_step C P n ts ≡ go w → coming goal sets (down ts) P b n os ≡ coming goal sets (down w.tasks) w.posted b n os
  pub dies : (C : Family) → sets P b ≡ Some C → next_step C P n ts ≡ nothing → coming goal sets (down ts) P b n os ≡ coming goal sets back P b n os
  pub spends : (C : Family) → sets P b ≡ Some C → next_step C P n ts ≡ next.Next.spent → coming goal sets (down ts) P b n os ≡ coming goal sets turn.Turn.spent P b n os
  pub chooses : (C : Family) (ws : List Way) → sets P b ≡ Some C → next_step C P n ts ≡ choose ws → coming goal sets (down ts) P b n os ≡ trying goal sets ws b n os
  pub commits : (C : Family) (s : Statement) (us : List Task) → sets P b ≡ Some C → next_step C P n ts ≡ commit s us → coming goal sets (down ts) P b n os ≡ coming goal sets (down (act s ∷ [])) P b n (gate us ∷ os)
  pub solves : (C : Family) → sets P b ≡ Some C → next_step C P n ts ≡ finished → mode os ≡ whole → coming goal sets (down ts) P b n os ≡ coming goal sets (solved (values_of C)) P (best_after goal (values_of C) b) n os
  pub leaves : (C : Family) → sets P b ≡ Some C → next_step C P n ts ≡ finished → mode os ≡ inner → coming goal sets (down ts) P b n os ≡ coming goal sets (down (follows os)) P b n (past_gate os)

-- the first alternative is entered, and the others stay open; behind a path the search goes back to the place opened last
pub record PlacesTurn (goal : Option Objective) (sets : List Fact → Option ℤ → Option Family) (P : List Fact) (b : Option ℤ) (n : ℕ) (os : List Place) : Type 0 where
  pub enters : (w : Way) (ws : List Way) → trying goal sets (w ∷ ws) b (suc n) os ≡ marked (choice w.label) (coming goal sets (down w.tasks) w.posted b n (ways ws ∷ os))
  pub enters_last : (w : Way) → trying goal sets (w ∷ []) b (suc n) os ≡ marked (choice w.label) (coming goal sets (down w.tasks) w.posted b n os)
  pub enters_none : (w : Way) (ws : List Way) → trying goal sets (w ∷ ws) b zero os ≡ stopped b
  pub ends : coming goal sets back P b n [] ≡ coming goal sets ended P b n []
  pub passes : (ts : List Task) → coming goal sets back P b n (gate ts ∷ os) ≡ coming goal sets back P b n os
  pub tries : (ws : List Way) → coming goal sets back P b n (ways ws ∷ os) ≡ trying goal sets ws b n os

abbrev pub TurnsAtMoments : Type 0
TurnsAtMoments = (goal : Option Objective) (sets : List Fact → Option ℤ → Option Family) (ts : List Task) (P : List Fact) (b : Option ℤ) (n : ℕ) (os : List Place) → MomentsTurn goal sets ts P b n os

abbrev pub TurnsAtPlaces : Type 0
TurnsAtPlaces = (goal : Option Objective) (sets : List Fact → Option ℤ → Option Family) (P : List Fact) (b : Option ℤ) (n : ℕ) (os : List Place) → PlacesTurn goal sets P b n os

-- a search begins with no place open, and what comes is what its tasks make
abbrev pub Beginnings : Type 0
Beginnings = (goal : Option Objective) (sets : List Fact → Option ℤ → Option Family) (ts : List Task) (P : List Fact) (b : Option ℤ) (n : ℕ) → coming goal sets (down ts) P b n [] ≡ doing goal sets whole ts P b n
