use Rattle.std.proofs.Common.{arith, length}
use Rattle.opl_linear.proofs.Differs.{open_first, next_fixed, open_here, open_end}
use Rattle.opl_linear.proofs.AtMost.{among_at}
use Rattle.opl_linear.proofs.different.next_open.Goals as goal

pub loop-at-init : goal.loop-at-init
loop-at-init g c = (omega arith, c.requires.from, open_first _ c.args.parts.now c.args.from c.requires.from)

pub loop-at-preserved : goal.loop-at-preserved
loop-at-preserved g c =
    (omega (arith, c.loop-at.invariant.0), omega (arith, c.loop-at-test.true), next_fixed (g.V.View.family c.args.view.now) c.args.parts.now c.args.from c.loop-at.at c.is_fixed.result c.loop-at.invariant.2 c.is_fixed.ensures c.if-not-is_fixed.false)

pub returns-then-not-is_fixed : goal.returns-then-not-is_fixed
returns-then-not-is_fixed g c =
    open_here (g.V.View.family c.args.view.now) c.args.parts.now c.args.from c.loop-at.at c.is_fixed.result c.loop-at.invariant.0 c.loop-at-test.true c.loop-at.invariant.2 c.is_fixed.ensures c.if-not-is_fixed.true

pub returns : goal.returns
returns g c = open_end (g.V.View.family c.args.view.now) c.args.parts.now c.args.from c.loop-at.at c.loop-at.invariant.0 c.loop-at.invariant.1 c.loop-at.invariant.2 c.loop-at-test.false

pub is_fixed-requires : goal.is_fixed-requires
is_fixed-requires g c = among_at (length (g.V.View.family c.args.view.now)) c.args.parts.now c.loop-at.at c.requires.there c.loop-at-test.true
