use Rattle.opl_range.proofs.Demands.{ends_there, end_fits, end_neg_fits, not_ended_fits, not_ended_is, point_is}
use Rattle.opl_range.proofs.uses.has_not_ended.Goals as goal

pub hull-requires : goal.hull-requires
hull-requires g c = (ends_there c.args.core.now (g.V.View.family c.args.view.now) c.args.u.now.start c.args.u.now.duration c.args.time c.requires.within c.requires.sound).0

pub hull-requires-2 : goal.hull-requires-2
hull-requires-2 g c = (ends_there c.args.core.now (g.V.View.family c.args.view.now) c.args.u.now.start c.args.u.now.duration c.args.time c.requires.within c.requires.sound).1

pub add-end-requires : goal.add-end-requires
add-end-requires g c =
    end_fits c.args.core.now (g.V.View.family c.args.view.now) c.args.u.now.start c.args.u.now.duration c.args.time c.hull.result c.hull-2.result c.requires.within c.requires.sound c.hull.ensures c.hull-2.ensures

pub neg-requires : goal.neg-requires
neg-requires g c =
    end_neg_fits c.args.core.now (g.V.View.family c.args.view.now) c.args.u.now.start c.args.u.now.duration c.args.time c.hull.result c.hull-2.result c.add-end.result c.requires.within c.requires.sound c.hull.ensures c.hull-2.ensures c.add-end.ensures

pub add-requires : goal.add-requires
add-requires g c =
    not_ended_fits c.args.core.now (g.V.View.family c.args.view.now) c.args.u.now.start c.args.u.now.duration c.args.time c.hull.result c.hull-2.result c.add-end.result c.neg.result c.point.result c.requires.within c.requires.sound c.hull.ensures c.hull-2.ensures
    c.add-end.ensures c.neg.ensures (point_is c.args.time _ c.ranges.time c.point.ensures)

pub returns : goal.returns
returns g c =
    let there = ends_there c.args.core.now (g.V.View.family c.args.view.now) c.args.u.now.start c.args.u.now.duration c.args.time c.requires.within c.requires.sound in
    not_ended_is (g.V.View.family c.args.view.now) c.args.u.now.start c.args.u.now.duration c.args.time c.hull.result c.hull-2.result c.add-end.result c.neg.result c.point.result c.add.result c.below_zero.result
    there.0 there.1 c.hull.ensures c.hull-2.ensures c.add-end.ensures c.neg.ensures (point_is c.args.time _ c.ranges.time c.point.ensures) c.add.ensures c.below_zero.ensures
