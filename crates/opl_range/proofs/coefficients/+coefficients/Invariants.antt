use Rattle.std.proofs.Common.{◌≡◌, ◌≤◌, map, length, drop}
use Rattle.opl_expr.specs.Forms.{term, terms_of}
use Rattle.opl_expr.specs.Range.{coefs}
use Rattle.opl_range.proofs.coefficients.+coefficients.Given as goal

abbrev pub invariant-sum_of_coefficients-loop-left : goal.invariant-sum_of_coefficients-loop-left
invariant-sum_of_coefficients-loop-left l = (l.left ≤ length l.parts) × (l.total ≡ coefs (terms_of (map (term l.core.tables l.core.resources) (drop l.left l.parts))) l.x)

abbrev pub decreases-sum_of_coefficients-loop-left : goal.decreases-sum_of_coefficients-loop-left
decreases-sum_of_coefficients-loop-left l = l.left
