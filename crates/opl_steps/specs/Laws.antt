-- What is proved of the steps of a search, and of the bound.
use Rattle.std.specs.Prelude.{◌≡◌, ℕ, true, List, [], ◌∷◌, ℤ, Option, Some, None}
use Rattle.opl_domain.specs.Family.{Family}
use Rattle.opl_expr.specs.Forms.{Fact}
use Rattle.opl_expr.specs.Holds.{value}
use Rattle.opl_expr.specs.Laws.{clear, clear_fact}
use Rattle.opl_expr.specs.Sound.{IsSoundFact}
use Rattle.opl_trace.specs.Objective.{Objective, better_than, is_better}
use Rattle.opl_trace.specs.Solutions.{satisfies}
use Rattle.opl_trace.specs.SoundCores.{IsSoundGoal, IsBest}
use Rattle.opl_trace.specs.Run.{nothing}
use Rattle.opl_steps.specs.Tasks.{Task, End, doing}
use Rattle.opl_steps.specs.Steps.{next_step}
use Rattle.opl_steps.specs.Made.{Means}
use Rattle.opl_steps.specs.Costs.{IsLess}

-- at a moment with sets, the tasks make what comes next
abbrev pub StepsMean : Type 0
StepsMean = (goal : Option Objective) (sets : List Fact → Option ℤ → Option Family) (end : End) (ts : List Task) (P : List Fact) (b : Option ℤ) (n : ℕ) (C : Family) →
    sets P b ≡ Some C → Means goal sets end ts P b n (next_step C P n ts)

-- at a moment without sets they make nothing
abbrev pub FailedMomentsEnd : Type 0
FailedMomentsEnd = (goal : Option Objective) (sets : List Fact → Option ℤ → Option Family) (end : End) (ts : List Task) (P : List Fact) (b : Option ℤ) (n : ℕ) →
    sets P b ≡ None → doing goal sets end ts P b n ≡ nothing P b n

-- what comes next costs less
abbrev pub StepsLessen : Type 0
StepsLessen = (C : Family) (P : List Fact) (n : ℕ) (ts : List Task) → IsLess ts n (next_step C P n ts)

-- the bound holds on the assignments whose objective is better
abbrev pub BetterHolds : Type 0
BetterHolds = (g : Objective) (i : ℤ) (a : List ℤ) → satisfies (better_than g i ∷ []) a ≡ is_better g (value a g.term) (Some i)

-- the bound of a sound objective is sound, whatever the best value
abbrev pub BetterIsSound : Type 0
BetterIsSound = (sets : List (ℤ × ℤ)) (g : Objective) (i : ℤ) → IsSoundGoal sets (Some g.term) → IsBest sets (Some g.term) (Some i) → IsSoundFact sets (better_than g i)

-- in the bound the indices of each table differ, where they do in the objective
abbrev pub BetterIsClear : Type 0
BetterIsClear = (g : Objective) (i : ℤ) → clear g.term ≡ true → clear_fact (better_than g i) ≡ true
