use Rattle.std.proofs.Common.{arith}
use Rattle.opl_count.proofs.Tying.{apart_next, found}
use Rattle.opl_count.proofs.ties.shares.Goals as goal

pub returns-then-contains : goal.returns-then-contains
returns-then-contains c = found c.args.xs.now c.args.ys.now c.loop-left.left c.contains.result c.loop-left-test.true c.loop-left.invariant.0 c.contains.ensures.value c.if-contains.true

pub loop-left-preserved : goal.loop-left-preserved
loop-left-preserved c =
    (omega (arith, c.loop-left.invariant.0), apart_next c.args.xs.now c.args.ys.now c.loop-left.left c.contains.result c.loop-left-test.true c.loop-left.invariant.0 c.loop-left.invariant.1 c.contains.ensures.value c.if-contains.false)
