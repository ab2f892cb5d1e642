use Rattle.std.proofs.Common.{◌≤◌, map, length, drop}
use Rattle.opl_expr.specs.Forms.{term, terms_of}
use Rattle.opl_expr.specs.Range.{coefs}
use Rattle.opl_range.specs.Between.{Ends}
use Rattle.opl_range.proofs.coefficients.+named.Given as goal

abbrev pub invariant-last_of-loop-left : goal.invariant-last_of-loop-left
invariant-last_of-loop-left l = (l.left ≤ length l.parts) × Ends (coefs (terms_of (map (term l.core.tables l.core.resources) (drop l.left l.parts)))) l.end l.found

abbrev pub decreases-last_of-loop-left : goal.decreases-last_of-loop-left
decreases-last_of-loop-left l = l.left
