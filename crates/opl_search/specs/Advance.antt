-- One call of a search, from its beginning or from behind a solution.
use Rattle.std.specs.Prelude.{◌≡◌, ℕ, ◌+◌, ◌≤◌, Bool, true, false, cond, List, [], length}
use Rattle.opl_trace.specs.Run.{Out}
use Rattle.opl_trace.specs.Marks.{core_trace}
use Rattle.opl_search.specs.declared.search.Open.{Open}
use Rattle.opl_search.specs.declared.search.Turn.TheVariants as at
use Rattle.opl_search.specs.declared.search.Step1.{Step1}
use Rattle.opl_search.specs.States.{State, beginning}
use Rattle.opl_search.specs.Pending.{AreOpen, comes, Goes, leaves}

-- what a search stands on, its open places, and how many choices are left
pub record Seen : Type 0 where
  pub state : State
  pub opens : List Open
  pub left : ℕ

abbrev pub seen : State → List Open → ℕ → Seen
seen s os n = record { state = s; opens = os; left = n }

-- what comes at the first call, and at one that follows a solution
abbrev pub start_of : Bool → Seen → Out
start_of true s = core_trace true s.state.core s.left
start_of false s = comes s.state s.opens s.left at.Back

-- before the first call, and before one that follows a solution
abbrev pub CanStart : Bool → Seen → Type 0
CanStart true s = (s.state ≡ beginning s.state.core) × (s.opens ≡ [])
CanStart false s = AreOpen s.opens (length s.state.levels) s.state.levels

-- what an answer makes of a search
pub record Advances (begins : Bool) (s n : Seen) (e : Step1) : Type 0 where
  pub goes : Goes s.state (start_of begins s) s.left n.state n.opens n.left (at.Done e)
  pub leaves : leaves (at.Done e) + n.left ≤ cond begins 1 0 + s.left
