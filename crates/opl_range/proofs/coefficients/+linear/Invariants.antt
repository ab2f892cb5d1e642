use Rattle.std.proofs.Common.{◌≡◌, ◌≤◌, map, length, drop, true}
use Rattle.opl_expr.specs.Forms.{term, terms_of}
use Rattle.opl_expr.specs.Range.{all_pure}
use Rattle.opl_range.proofs.coefficients.+linear.Given as goal

abbrev pub invariant-are_linear-loop-left : goal.invariant-are_linear-loop-left
invariant-are_linear-loop-left l = (l.left ≤ length l.parts) × (all_pure (terms_of (map (term l.core.tables l.core.resources) (drop l.left l.parts))) ≡ true)

abbrev pub decreases-are_linear-loop-left : goal.decreases-are_linear-loop-left
decreases-are_linear-loop-left l = l.left
