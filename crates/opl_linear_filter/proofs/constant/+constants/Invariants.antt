use Rattle.std.proofs.Common.{◌≡◌, ◌≤◌, map, length, drop}
use Rattle.opl_expr.specs.Forms.{term, terms_of}
use Rattle.opl_linear.specs.Forms.{constant_parts}
use Rattle.opl_linear_filter.proofs.constant.+constants.Given as goal

abbrev pub invariant-constant_parts-loop-left : goal.invariant-constant_parts-loop-left
invariant-constant_parts-loop-left l = (l.left ≤ length l.parts) × (l.total ≡ constant_parts (terms_of (map (term l.core.tables l.core.resources) (drop l.left l.parts))))

abbrev pub decreases-constant_parts-loop-left : goal.decreases-constant_parts-loop-left
decreases-constant_parts-loop-left l = l.left
