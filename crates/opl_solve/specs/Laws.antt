-- Limits that are not reached.
use Rattle.std.specs.Prelude.{◌≡◌, ℕ, ◌<◌, Bool, List, length, Option, Some, None}
use Rattle.opl_meaning.specs.declared.variable.VariableItem.{VariableItem}
use Rattle.opl_show.specs.Texts.{Enumerations}
use Rattle.opl_trace.specs.Objective.{Objective}
use Rattle.opl_trace.specs.Run.{Out}
use Rattle.opl_trace.specs.Marks.{solved}
use Rattle.opl_solve.specs.declared.show.Showing.{Showing}
use Rattle.opl_solve.specs.Texts.{search_text}

-- solutions are shown each or the last one alone, up to a limit, or all
abbrev up_to : Option ℕ → Bool → Showing
up_to limit is_each = record { limit = limit; is_each = is_each }

-- a limit that is not reached changes nothing
abbrev pub UnreachedLimit : Type 0
UnreachedLimit = (goal : Option Objective) (enumerations : Enumerations) (items : List VariableItem) (is_each : Bool) (n : ℕ) (out : Out) → length (solved out.marks) < n →
    search_text goal enumerations items (up_to (Some n) is_each) out ≡ search_text goal enumerations items (up_to None is_each) out
