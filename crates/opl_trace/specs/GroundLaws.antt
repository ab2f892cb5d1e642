-- What is proved of the searches of ground cores.
use Rattle.std.specs.Prelude.{◌≡◌, ℕ, Bool, true, false, Some}
use Rattle.std.specs.List.{All}
use Rattle.opl_expr.specs.declared.model.Core.{Core}
use Rattle.opl_expr.specs.Solutions.{is_solution}
use Rattle.opl_trace.specs.Objective.{improving}
use Rattle.opl_trace.specs.Statements.{Statement}
use Rattle.opl_trace.specs.Paths.{is_plain, reached}
use Rattle.opl_trace.specs.Marks.{objective, section, core_trace, core_marks, solved}
use Rattle.opl_trace.specs.GroundCores.{IsGroundCore}

-- a search by a plain section that makes no Cut makes the solutions that its paths reach, path after path; with an objective,
-- those of them that are better than all before them
abbrev pub PlainSections : Type 0
PlainSections = (core : Core) (s : Statement) (n : ℕ) → IsGroundCore core → section false core ≡ Some s → is_plain s ≡ true →
    (core_trace false core n).is_cut ≡ false → solved (core_trace false core n).marks ≡ improving (objective core) (reached core s)

-- each Solution mark of a search is a solution, whatever the section
abbrev pub MarksAreSolutions : Type 0
MarksAreSolutions = (core : Core) (default : Bool) (n : ℕ) → IsGroundCore core → All (λ a. is_solution core a ≡ true) (solved (core_marks default core n))
