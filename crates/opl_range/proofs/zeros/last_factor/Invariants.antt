use Rattle.opl_range.specs.Between.{between}
use Rattle.opl_range.proofs.Named.{IsPassed}
use Rattle.opl_range.proofs.zeros.last_factor.Given as goal

abbrev pub invariant-named : goal.invariant-named
invariant-named l = IsPassed (between l.core l.a l.b) l.end l.left

abbrev pub decreases-named : goal.decreases-named
decreases-named l = l.left
