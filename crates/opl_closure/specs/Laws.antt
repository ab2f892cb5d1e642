-- What joins propagation to the rules of a search.
use Rattle.std.specs.Prelude.{◌≡◌, List, ◌++◌, ℤ, Option}
use Rattle.opl_domain.specs.Family.{Family}
use Rattle.opl_expr.specs.Forms.{Fact}
use Rattle.opl_trace.specs.Objective.{Objective, bound}
use Rattle.opl_trace.specs.Run.{is_dead}
use Rattle.opl_closure.specs.Members.{refutes_one}

-- a family is dead at a moment where it refutes one of the posted constraints, or the bound on the objective
abbrev pub BoundIsMember : Type 0
BoundIsMember = (goal : Option Objective) (P : List Fact) (b : Option ℤ) (F : Family) → is_dead goal P b F ≡ refutes_one (P ++ bound goal b) F
