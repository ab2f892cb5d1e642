use Rattle.std.proofs.Common.{true, false, arith}
use Rattle.opl_reify.proofs.Opening.{part_read, told, open_first, open_next, open_none}
use Rattle.opl_reify.proofs.open.next_open.Goals as goal

pub loop-at-init : goal.loop-at-init
loop-at-init g c = (omega arith, open_first c.args.core.now (g.V.View.family c.args.view.now) c.args.parts.now c.args.from)

pub is_refuted-requires-clause-part : goal.is_refuted-requires-clause-part
is_refuted-requires-clause-part g c = part_read c.args.core.now c.args.parts.now c.loop-at.at c.index-parts-at.result c.requires.parts c.loop-at-test.true c.index-parts-at.is

pub returns-then-not-is_refuted : goal.returns-then-not-is_refuted
returns-then-not-is_refuted g c = record {
  least = c.loop-at.invariant.0;
  is_open = record {
    there = c.loop-at-test.true;
    not_refuted = told c.args.core.now (g.V.View.family c.args.view.now) c.args.parts.now c.loop-at.at c.index-parts-at.result c.is_refuted.result false c.loop-at-test.true c.index-parts-at.is c.is_refuted.ensures c.if-not-is_refuted.true;
  };
  before = c.loop-at.invariant.1;
}

pub loop-at-preserved : goal.loop-at-preserved
loop-at-preserved g c =
    let F = g.V.View.family c.args.view.now in (
      omega (arith, c.loop-at.invariant.0),
      open_next c.args.core.now F c.args.parts.now c.args.from c.loop-at.at c.loop-at.invariant.1
          (told c.args.core.now F c.args.parts.now c.loop-at.at c.index-parts-at.result c.is_refuted.result true c.loop-at-test.true c.index-parts-at.is c.is_refuted.ensures c.if-not-is_refuted.false),
    )

pub returns : goal.returns
returns g c = open_none c.args.core.now (g.V.View.family c.args.view.now) c.args.parts.now c.args.from c.loop-at.at c.loop-at.invariant.1 c.loop-at-test.false
