use Rattle.opl_count.proofs.Made.{sum_read}
use Rattle.opl_count.proofs.count_filter.sum_of.Goals as goal

pub returns : goal.returns
returns c =
    sum_read c.args.core.now c.args.a.now c.args.b.now c.args.is_strict c.new.result c.start.result c.read.new.costs c.read-2.new.costs c.as_slice.result.now c.in_ok-ties.ties c.in_ok-read.field-0 c.in_ok-read-2.field-0 c.new.ensures c.start.ensures
    c.in_ok-read.ensures c.if-not-branch.false c.in_ok-read-2.ensures c.if-not-branch-2.false c.as_slice.ensures c.in_ok-ties.ensures c.requires
