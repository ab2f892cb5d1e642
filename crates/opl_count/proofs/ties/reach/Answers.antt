use Rattle.std.proofs.Common.{arith}
use Rattle.opl_count.proofs.Tying.{reach_fits, reach_next}
use Rattle.opl_count.proofs.ties.reach.Goals as goal

pub overflow_add-total : goal.overflow_add-total
overflow_add-total c =
    let f = reach_fits c.args.literals.now c.args.at c.loop-left.left c.loop-left.total c.shared_weight-total.result c.loop-left-test.true c.loop-left.invariant.0 c.requires.there c.loop-left.invariant.1 c.shared_weight-total.ensures c.requires.fits in
    omega (arith, f)

pub loop-left-preserved : goal.loop-left-preserved
loop-left-preserved c =
    (omega (arith, c.loop-left.invariant.0), reach_next c.args.literals.now c.args.at c.loop-left.left c.loop-left.total c.shared_weight-total.result c.loop-left-test.true c.loop-left.invariant.0 c.requires.there c.loop-left.invariant.1 c.shared_weight-total.ensures)
