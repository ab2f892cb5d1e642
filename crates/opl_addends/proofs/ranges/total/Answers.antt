use Rattle.std.proofs.Common.{◌∙◌, Some, ap, sym, drop, arith}
use Rattle.opl_expr.proofs.Parts.{drop_none}
use Rattle.opl_range.proofs.Parts.{none_left}
use Rattle.opl_addends.specs.Addends.{plain, plains, total}
use Rattle.opl_addends.proofs.Sizes.{one_more, one_more_fits, from_before, can_add_before}
use Rattle.opl_addends.proofs.ranges.total.Goals as goal

pub loop-left-init : goal.loop-left-init
loop-left-init g c =
    let core = c.args.core.now in
    let F = g.V.View.family c.args.view.now in
    (omega arith, ap Some c.point.ensures ∙ ap (λ ys. total F (plains core ys)) (sym (drop_none c.args.addends.now)))

pub addend_range-requires-clause-sound : goal.addend_range-requires-clause-sound
addend_range-requires-clause-sound g c =
    let core = c.args.core.now in
    (can_add_before (plain core) core.sets c.args.addends.now c.loop-left.left c.index-addends-left.result c.loop-left-test.true c.loop-left.invariant.0 c.index-addends-left.is c.requires.sound).sound.0

pub added-found-requires : goal.added-found-requires
added-found-requires g c =
    let core = c.args.core.now in
    let F = g.V.View.family c.args.view.now in
    let xs = c.args.addends.now in
    let L = c.loop-left.left in
    let x = c.index-addends-left.result in
    one_more_fits core F (plain core x) (plains core (drop L xs)) c.addend_range.result c.loop-left.found c.requires.within
    (can_add_before (plain core) core.sets xs L x c.loop-left-test.true c.loop-left.invariant.0 c.index-addends-left.is c.requires.sound) c.addend_range.ensures c.loop-left.invariant.1

pub loop-left-preserved : goal.loop-left-preserved
loop-left-preserved g c =
    let core = c.args.core.now in
    let F = g.V.View.family c.args.view.now in
    let xs = c.args.addends.now in
    let L = c.loop-left.left in
    let x = c.index-addends-left.result in (
      omega (arith, c.loop-left.invariant.0),
      one_more F (plain core x) (plains core (drop L xs)) c.addend_range.result c.loop-left.found c.added-found.result c.addend_range.ensures c.loop-left.invariant.1 c.added-found.ensures
          ∙ ap (total F) (sym (from_before (plain core) xs L x c.loop-left-test.true c.loop-left.invariant.0 c.index-addends-left.is)),
    )

pub returns : goal.returns
returns g c =
    let core = c.args.core.now in
    let F = g.V.View.family c.args.view.now in
    c.loop-left.invariant.1 ∙ ap (λ k. total F (plains core (drop k c.args.addends.now))) (none_left c.loop-left.left c.loop-left-test.false)
