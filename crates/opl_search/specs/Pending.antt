-- What a search will still make, by the places that it keeps open.
use Rattle.std.specs.Prelude.{◌≡◌, ℕ, ◌-◌, ◌<◌, ◌≤◌, List, [], ◌∷◌, map, drop, length, ℤ, int_lt, Option, Some, None}
use Rattle.std.specs.List.{filter}
use Rattle.opl_domain.specs.Family.{Family, set_of, Below}
use Rattle.opl_expr.specs.declared.model.Core.{Core}
use Rattle.opl_expr.specs.Solutions.{declared}
use Rattle.opl_trace.specs.Marks.{objective}
use Rattle.opl_trace.specs.Objective.{best_after}
use Rattle.opl_trace.specs.Run.{Out, values_of}
use Rattle.opl_steps.specs.Tasks as plain
use Rattle.opl_steps.specs.Tasks.Task.{values}
use Rattle.opl_steps.specs.Steps.{Way, on_value}
use Rattle.opl_turns.specs.Coming as c
use Rattle.opl_turns.specs.Coming.{Place, Chooses}
use Rattle.opl_turns.specs.Coming.Place.{ways}
use Rattle.opl_turns.specs.Covered.{Covers}
use Rattle.opl_turns.specs.Weights.{weight_down, weight_at, weight_back}
use Rattle.opl_search.specs.declared.search.Open.{Open}
use Rattle.opl_search.specs.declared.search.Turn as turn
use Rattle.opl_search.specs.declared.search.Turn.TheVariants as at
use Rattle.opl_search.specs.declared.search.Step1.{Step1}
use Rattle.opl_search.specs.declared.search.Step1.TheVariants as step
use Rattle.opl_search.specs.Tails.{tail_of}
use Rattle.opl_search.specs.States.{Level, State, level_at, moment, IsMoment}

-- the numbers of a list above one
abbrev pub above : ℤ → List ℤ → List ℤ
above v vs = filter (int_lt v) vs

-- the values that are left after one, or all
abbrev pub left_values : Option ℤ → List ℤ → List ℤ
left_values None vs = vs
left_values (Some v) vs = above v vs

-- the next value that is left
abbrev pub IsNextValue : List ℤ → Option ℤ → Option ℤ → Type 0
IsNextValue vs last None = left_values last vs ≡ []
IsNextValue vs last (Some v) = left_values last vs ≡ v ∷ above v vs

-- ---- places

-- the values of variable x that are left at a level, each before the same tasks
abbrev pub ways_of : ℕ → Option ℤ → List plain.Task → Level → List Way
ways_of x last ts l = map (λ v. on_value x v l.posted ts) (left_values last (set_of l.sets x))

-- what follows each value of an open place
abbrev pub rest_of : Open → List plain.Task
rest_of o = values (drop o.place o.variables.value) ∷ tail_of o.rest.value

abbrev pub place_of : Open → Option Level → Place
place_of o None = ways []
place_of o (Some l) = ways (ways_of o.variable (Some o.last) (rest_of o) l)

-- the place opened last stands first
abbrev pub places : List Open → List Level → List Place
places [] ls = []
places (o ∷ os) ls = place_of o (level_at o.level ls) ∷ places os ls

-- each variable with two values at its level is the place's own or is labelled later
abbrev pub IsOpen : Open → Option Level → Type 0
IsOpen o None = ⊥
IsOpen o (Some l) = Covers l.sets (values (o.variable ∷ drop o.place o.variables.value) ∷ tail_of o.rest.value)

-- the levels of the places fall, and are below n
abbrev pub AreOpen : List Open → ℕ → List Level → Type 0
AreOpen [] n ls = Unit {0}
AreOpen (o ∷ os) n ls = (o.level < n) × IsOpen o (level_at o.level ls) × AreOpen os o.level ls

-- ---- turns

abbrev pub turn_of : Family → turn.Turn → c.Turn
turn_of F (at.Down t) = c.Turn.down (tail_of t)
turn_of F (at.At t) = c.Turn.down (tail_of t)
turn_of F (at.Back) = c.Turn.back
turn_of F (at.Done (step.Solution)) = c.Turn.solved (values_of F)
turn_of F (at.Done (step.End)) = c.Turn.ended
turn_of F (at.Done (step.Spent)) = c.Turn.spent

-- what comes from a turn on, with n choices left
abbrev pub comes : State → List Open → ℕ → turn.Turn → Out
comes s os n t = c.coming (objective s.core) (moment s.core) (turn_of s.sets t) s.posted s.best n (places os s.levels)

-- what comes where the values of variable x after the last one are to be tried before the tasks
abbrev pub tries : State → List Open → ℕ → ℕ → Option ℤ → List plain.Task → Out
tries s os n x last ts = c.trying (objective s.core) (moment s.core) (ways_of x last ts (record { sets = s.sets; posted = s.posted })) s.best n (places os s.levels)

-- at a moment the sets are those of the moment, and before it those that they will be are within them; each variable that has
-- two values is still labelled; at a solution there is a set for each variable
abbrev pub IsTurn : State → turn.Turn → Type 0
IsTurn s (at.At t) = IsMoment s × Covers s.sets (tail_of t)
IsTurn s (at.Down t) = (C : Family) → moment s.core s.posted s.best ≡ Some C → Below C s.sets → Covers C (tail_of t)
IsTurn s (at.Back) = Unit {0}
IsTurn s (at.Done (step.Solution)) = length s.sets ≡ length (declared s.core)
IsTurn s (at.Done (step.End)) = Unit {0}
IsTurn s (at.Done (step.Spent)) = Unit {0}

-- a solution's value is the best; at every other turn the best value is as before
abbrev pub best_at : Core → Option ℤ → Family → turn.Turn → Option ℤ
best_at core b F (at.Down t) = b
best_at core b F (at.At t) = b
best_at core b F (at.Back) = b
best_at core b F (at.Done (step.Solution)) = best_after (objective core) (values_of F) b
best_at core b F (at.Done (step.End)) = b
best_at core b F (at.Done (step.Spent)) = b

-- from the outcome o with n choices left on, where a search stood as `before`, it has come to a turn
pub record Goes (before : State) (o : Out) (n : ℕ) (s : State) (os : List Open) (m : ℕ) (t : turn.Turn) : Type 0 where
  pub same : s.core ≡ before.core
  pub best : s.best ≡ best_at before.core before.best s.sets t
  pub fewer : m ≤ n
  pub makes : Chooses (n - m) o (comes s os m t)
  pub opens : AreOpen os (length s.levels) s.levels
  pub turn : IsTurn s t

-- ---- counts

-- a bound on the turns before the next choice
abbrev pub weight : State → List Open → ℕ → turn.Turn → ℕ
weight s os n (at.Down t) = weight_down (tail_of t) (places os s.levels) n
weight s os n (at.At t) = weight_at (tail_of t) (places os s.levels) n
weight s os n (at.Back) = weight_back (places os s.levels) n
weight s os n (at.Done e) = 0

-- whether sets are to be closed, and whether a path may end in a solution, before the next choice
abbrev pub closings : turn.Turn → ℕ
closings (at.Down t) = 1
closings (at.At t) = 0
closings (at.Back) = 0
closings (at.Done e) = 0

abbrev pub leaves : turn.Turn → ℕ
leaves (at.Down t) = 1
leaves (at.At t) = 1
leaves (at.Back) = 0
leaves (at.Done (step.Solution)) = 1
leaves (at.Done (step.End)) = 0
leaves (at.Done (step.Spent)) = 0

-- the answer at which a search is, if it is at one
abbrev pub answer_of : turn.Turn → Option Step1
answer_of (at.Down t) = None
answer_of (at.At t) = None
answer_of (at.Back) = None
answer_of (at.Done e) = Some e
