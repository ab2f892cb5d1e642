-- The moments of a core's search.
use Rattle.std.specs.Prelude.{List, ℤ, Option}
use Rattle.opl_domain.specs.Family.{Family}
use Rattle.opl_expr.specs.declared.model.Core.{Core}
use Rattle.opl_expr.specs.Forms.{Fact}
use Rattle.opl_expr.specs.Solutions.{declared}
use Rattle.opl_trace.specs.Marks.{objective}
use Rattle.opl_trace.specs.Run.{closed}

-- the sets at a moment, by its constraints and its best value
abbrev pub core_sets : Core → List Fact → Option ℤ → Option Family
core_sets core = closed (objective core) (declared core)
