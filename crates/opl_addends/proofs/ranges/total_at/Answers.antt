use Rattle.std.proofs.Common.{◌∙◌, Some, ap, sym, drop, arith}
use Rattle.opl_expr.proofs.Parts.{drop_none}
use Rattle.opl_range.proofs.Parts.{none_left}
use Rattle.opl_addends.specs.Addends.{plain, plains, picked, total}
use Rattle.opl_addends.proofs.Picking.{picked_none, picked_one, picked_can_add}
use Rattle.opl_addends.proofs.Sizes.{one_more, one_more_fits}
use Rattle.opl_addends.proofs.ranges.total_at.Goals as goal

pub loop-left-init : goal.loop-left-init
loop-left-init g c =
    let core = c.args.core.now in
    let F = g.V.View.family c.args.view.now in
    (omega arith, ap Some c.point.ensures ∙ ap (λ ps. total F (plains core (picked c.args.addends.now ps))) (sym (drop_none c.args.places.now)))

pub addend_range-requires-clause-sound : goal.addend_range-requires-clause-sound
addend_range-requires-clause-sound g c =
    let core = c.args.core.now in
    (picked_can_add (plain core) c.args.addends.now c.args.places.now c.loop-left.left c.loop-left-test.true c.loop-left.invariant.0 core.sets c.in-Some.addend.now c.in-Some.ensures.value c.requires.sound).sound.0

pub added-found-requires : goal.added-found-requires
added-found-requires g c =
    let core = c.args.core.now in
    let F = g.V.View.family c.args.view.now in
    let xs = c.args.addends.now in
    let ps = c.args.places.now in
    let L = c.loop-left.left in
    let x = c.in-Some.addend.now in
    one_more_fits core F (plain core x) (plains core (picked xs (drop L ps))) c.addend_range.result c.loop-left.found c.requires.within
    (picked_can_add (plain core) xs ps L c.loop-left-test.true c.loop-left.invariant.0 core.sets x c.in-Some.ensures.value c.requires.sound) c.addend_range.ensures c.loop-left.invariant.1

pub loop-left-preserved : goal.loop-left-preserved
loop-left-preserved g c =
    let core = c.args.core.now in
    let F = g.V.View.family c.args.view.now in (
      omega (arith, c.loop-left.invariant.0),
      c.loop-left.invariant.1 ∙ ap (total F) (picked_none (plain core) c.args.addends.now c.args.places.now c.loop-left.left c.loop-left-test.true c.loop-left.invariant.0 c.in_default.ensures.value),
    )

pub loop-left-preserved-in-Some : goal.loop-left-preserved-in-Some
loop-left-preserved-in-Some g c =
    let core = c.args.core.now in
    let F = g.V.View.family c.args.view.now in
    let xs = c.args.addends.now in
    let ps = c.args.places.now in
    let L = c.loop-left.left in
    let x = c.in-Some.addend.now in (
      omega (arith, c.loop-left.invariant.0),
      one_more F (plain core x) (plains core (picked xs (drop L ps))) c.addend_range.result c.loop-left.found c.added-found.result c.addend_range.ensures c.loop-left.invariant.1 c.added-found.ensures
          ∙ ap (total F) (picked_one (plain core) xs ps L c.loop-left-test.true c.loop-left.invariant.0 x c.in-Some.ensures.value),
    )

pub returns : goal.returns
returns g c =
    let core = c.args.core.now in
    let F = g.V.View.family c.args.view.now in
    c.loop-left.invariant.1 ∙ ap (λ k. total F (plains core (picked c.args.addends.now (drop k c.args.places.now)))) (none_left c.loop-left.left c.loop-left-test.false)
