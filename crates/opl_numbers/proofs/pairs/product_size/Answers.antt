use Rattle.std.proofs.Common.{sym, ◌∙◌}
use Rattle.opl_numbers.proofs.Products.{size-left, size-other, size-right}
use Rattle.opl_numbers.proofs.pairs.product_size.Goals as goal

pub returns-then-is_left : goal.returns-then-is_left
returns-then-is_left c k h m = size-left k c.args.left.now c.args.right.now c.saturating_mul-size.result c.saturating_mul-size.ensures (sym (c.is_written-is_left.ensures k) ∙ c.if-is_left.true) h m

pub returns-then-is_right : goal.returns-then-is_right
returns-then-is_right c k h m =
    size-right k c.args.left.now c.args.right.now c.saturating_mul-size.result c.saturating_mul-size.ensures (sym (c.is_written-is_left.ensures k) ∙ c.if-is_left.false) (sym (c.is_written-is_right.ensures k) ∙ c.if-is_right.true) h m

pub returns : goal.returns
returns c k h m =
    size-other k c.args.left.now c.args.right.now c.larger.result c.saturating_mul-size.result c.larger.ensures c.saturating_mul-size.ensures (sym (c.is_written-is_left.ensures k) ∙ c.if-is_left.false)
    (sym (c.is_written-is_right.ensures k) ∙ c.if-is_right.false) h m
