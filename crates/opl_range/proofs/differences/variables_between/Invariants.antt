use Rattle.std.proofs.Common.{length}
use Rattle.opl_range.specs.Between.{between}
use Rattle.opl_range.proofs.Named.{IsSummed}
use Rattle.opl_range.proofs.differences.variables_between.Given as goal

abbrev pub invariant-named : goal.invariant-named
invariant-named g l = IsSummed l.core.sets (g.V.View.family l.view) (between l.core l.a l.b) (length (g.V.View.family l.view)) l.end l.sum

abbrev pub decreases-named : goal.decreases-named
decreases-named g l = l.end
