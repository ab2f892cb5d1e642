use Rattle.std.proofs.Common.{sym, ◌∙◌}
use Rattle.opl_expr.specs.Forms.{term}
use Rattle.opl_range.proofs.Parts.{none_linear}
use Rattle.opl_range.proofs.coefficients.+linear.Goals as goal

pub are_linear-returns-then-not-is_linear : goal.are_linear-returns-then-not-is_linear
are_linear-returns-then-not-is_linear t c =
    none_linear (term c.args.core.now.tables c.args.core.now.resources) c.args.parts.now c.loop-left.left c.index-parts-left.result c.loop-left-test.true c.loop-left.invariant.0 c.index-parts-left.is (sym c.is_linear.ensures ∙ c.if-not-is_linear.true)
