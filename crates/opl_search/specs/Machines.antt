-- A machine as a value: how far the search of a core has come, and what its calls answer.
use Rattle.std.specs.Prelude.{◌≡◌, ℕ, zero, suc, ◌+◌, ◌-◌, ◌≤◌, Bool, true, false, List, [], ◌∷◌, length, ℤ, int_lt, Option, Some, None, Result, Ok, Err}
use Rattle.std.specs.List.{list_any}
use Rattle.opl_domain.specs.declared.fault.OutOfMemory.{OutOfMemory}
use Rattle.opl_expr.specs.declared.model.Core.{Core}
use Rattle.opl_expr.specs.Options.{lift1}
use Rattle.opl_expr.specs.Solutions.{declared}
use Rattle.opl_trace.specs.Objective.{best_after}
use Rattle.opl_trace.specs.Run.Mark.{choice, leaf, solution, cut}
use Rattle.opl_trace.specs.Run.{Mark, Out, behind, choices, values_of}
use Rattle.opl_trace.specs.Marks.{objective, section, core_trace, solved}
use Rattle.opl_search.specs.declared.machine.Last.{Last}
use Rattle.opl_search.specs.declared.machine.Last.TheVariants as last
use Rattle.opl_search.specs.declared.machine.Way.{Way}
use Rattle.opl_search.specs.declared.search.Turn.TheVariants as at
use Rattle.opl_search.specs.declared.search.Step1.{Step1}
use Rattle.opl_search.specs.declared.search.Step1.TheVariants as step
use Rattle.opl_search.specs.States.{beginning}
use Rattle.opl_search.specs.Pending.{AreOpen, comes}
use Rattle.opl_search.specs.Advance.{Seen, CanStart, Advances}

-- a core, the way in which it is searched, and its budget; how many choices and solutions have been made; the least value of
-- each variable, the best value, and the last answer
pub record Searching : Type 0 where
  pub core : Core
  pub way : Way
  pub budget : ℕ
  pub choices : ℕ
  pub solutions : ℕ
  pub values : List ℤ
  pub best : Option ℤ
  pub last : Last

-- ---- what it answers

-- the solution behind n others among marks: how many choices are made before it, and its values
abbrev pub nth_solution : List Mark → ℕ → Option (ℕ × List ℤ)
nth_solution [] n = None
nth_solution (choice l ∷ ms) n = lift1 (λ p. (suc p.0, p.1)) (nth_solution ms n)
nth_solution (leaf P ∷ ms) n = nth_solution ms n
nth_solution (solution a ∷ ms) zero = Some (0, a)
nth_solution (solution a ∷ ms) (suc n) = nth_solution ms n
nth_solution (cut ∷ ms) n = nth_solution ms n

-- the trace that it goes along
abbrev pub trace_of : Searching → Out
trace_of m = core_trace m.way.default_search m.core m.budget

-- the next solution of the trace, with its values and its choices; the end of a trace, or its Cut
pub record IsSolution (m n : Searching) : Type 0 where
  pub next : nth_solution (trace_of m).marks m.solutions ≡ Some (n.choices, n.values)
  pub one_more : n.solutions ≡ suc m.solutions
  pub best : n.best ≡ best_after (objective m.core) n.values m.best
  pub last : n.last ≡ last.Solution

pub record IsEnd (m n : Searching) (is_cut : Bool) (l : Last) : Type 0 where
  pub next : nth_solution (trace_of m).marks m.solutions ≡ None
  pub cut : (trace_of m).is_cut ≡ is_cut
  pub choices : n.choices ≡ choices (trace_of m).marks
  pub solutions : n.solutions ≡ m.solutions
  pub best : n.best ≡ m.best
  pub last : n.last ≡ l

abbrev pub Comes : Searching → Searching → Result Step1 OutOfMemory → Type 0
Comes m n (Ok (step.Solution)) = IsSolution m n
Comes m n (Ok (step.End)) = IsEnd m n false last.End
Comes m n (Ok (step.Spent)) = IsEnd m n true last.Spent × (n.choices ≡ m.budget)
Comes m n (Err e) = n.last ≡ last.OutOfMemory

-- it goes on, or answers the same again
abbrev pub GoesOn : Last → Type 0
GoesOn (last.Nothing) = Unit {0}
GoesOn (last.Solution) = Unit {0}
GoesOn (last.End) = ⊥
GoesOn (last.Spent) = ⊥
GoesOn (last.OutOfMemory) = ⊥

abbrev pub Again : Last → Result Step1 OutOfMemory → Type 0
Again (last.Nothing) r = ⊥
Again (last.Solution) r = ⊥
Again (last.End) r = r ≡ Ok step.End
Again (last.Spent) r = r ≡ Ok step.Spent
Again (last.OutOfMemory) r = r ≡ Err (record {})

-- ---- cores without solutions

-- some declared set is empty
abbrev pub has_empty_set : Core → Bool
has_empty_set core = list_any (λ p. int_lt p.1 p.0) core.sets

-- ---- how it stands

abbrev pub choices_in : ℕ → Option Seen → ℕ
choices_in budget None = 0
choices_in budget (Some s) = budget - s.left

abbrev pub values_in : Option Seen → List ℤ
values_in None = []
values_in (Some s) = values_of s.state.sets

abbrev pub best_in : Option Seen → Option ℤ
best_in None = None
best_in (Some s) = s.state.best

abbrev pub searching : Core → Way → ℕ → ℕ → Last → Option Seen → Searching
searching core way budget solutions l o =
    record { core = core; way = way; budget = budget; choices = choices_in budget o; solutions = solutions; values = values_in o; best = best_in o; last = l }

-- marks have been made, and what is still to come begins behind a path
pub record Behind (core : Core) (way : Way) (budget solutions : ℕ) (s : Seen) : Type 0 where
  pub made : List Mark
  pub joins : core_trace way.default_search core budget ≡ behind made (comes s.state s.opens s.left at.Back)
  pub chosen : choices made + s.left ≡ budget
  pub found : length (solved made) ≡ solutions
  pub few : solutions + s.left ≤ budget + 1
  pub same : s.state.core ≡ core
  pub opens : AreOpen s.opens (length s.state.levels) s.state.levels
  pub long : length s.state.sets ≡ length (declared core)

pub record Begins (core : Core) (budget solutions : ℕ) (s : Seen) : Type 0 where
  pub state : s.state ≡ beginning core
  pub opens : s.opens ≡ []
  pub left : s.left ≡ budget
  pub found : solutions ≡ 0

-- by its last answer
abbrev pub Stands : Core → Way → ℕ → ℕ → Seen → Last → Type 0
Stands core way budget solutions s (last.Nothing) = Begins core budget solutions s
Stands core way budget solutions s (last.Solution) = Behind core way budget solutions s
Stands core way budget solutions s (last.End) = Unit {0}
Stands core way budget solutions s (last.Spent) = Unit {0}
Stands core way budget solutions s (last.OutOfMemory) = Unit {0}

-- without sets there is nothing to search
abbrev pub StandsEmpty : Core → ℕ → Last → Type 0
StandsEmpty core solutions (last.Nothing) = (has_empty_set core ≡ true) × (solutions ≡ 0)
StandsEmpty core solutions (last.Solution) = ⊥
StandsEmpty core solutions (last.End) = Unit {0}
StandsEmpty core solutions (last.Spent) = Unit {0}
StandsEmpty core solutions (last.OutOfMemory) = Unit {0}

abbrev pub IsMachine : Core → Way → ℕ → ℕ → Last → Option Seen → Type 0
IsMachine core way budget solutions l None = (section way.default_search core ≡ None) × StandsEmpty core solutions l
IsMachine core way budget solutions l (Some s) = (section way.default_search core ≡ None) × (s.left ≤ budget) × Stands core way budget solutions s l

-- ---- before the first call

-- the last answer is none
abbrev pub is_first : Last → Bool
is_first (last.Nothing) = true
is_first (last.Solution) = false
is_first (last.End) = false
is_first (last.Spent) = false
is_first (last.OutOfMemory) = false

-- before the first call
pub record IsFresh (core : Core) (way : Way) (budget : ℕ) (m : Searching) : Type 0 where
  pub core_is : m.core ≡ core
  pub way_is : m.way ≡ way
  pub budget_is : m.budget ≡ budget
  pub choices : m.choices ≡ 0
  pub solutions : m.solutions ≡ 0
  pub best : m.best ≡ None
  pub last : m.last ≡ last.Nothing

-- ---- a call

abbrev pub CanAsk : Bool → Option Seen → Type 0
CanAsk begins None = Unit {0}
CanAsk begins (Some s) = CanStart begins s

abbrev pub Asked : Option Seen → Bool → Option Seen → Result Step1 OutOfMemory → Type 0
Asked None begins None r = r ≡ Ok step.End
Asked None begins (Some n) r = ⊥
Asked (Some s) begins None r = ⊥
Asked (Some s) begins (Some n) (Ok e) = (n.left ≤ s.left) × Advances begins s n e
Asked (Some s) begins (Some n) (Err e) = n.left ≤ s.left

abbrev pub left_in : Option Seen → ℕ
left_in None = 0
left_in (Some s) = s.left

-- an answer as the last one, and how many solutions it is
abbrev pub last_of : Step1 → Last
last_of (step.Solution) = last.Solution
last_of (step.End) = last.End
last_of (step.Spent) = last.Spent

abbrev pub count_of : Step1 → ℕ
count_of (step.Solution) = 1
count_of (step.End) = 0
count_of (step.Spent) = 0
