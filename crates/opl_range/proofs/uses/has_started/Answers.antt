use Rattle.std.proofs.Common.{ap, ◌∙◌}
use Rattle.opl_domain.specs.Arithmetic.{span_neg}
use Rattle.opl_range.proofs.Demands.{start_there, started_fits, started_is, point_is}
use Rattle.opl_range.proofs.uses.has_started.Goals as goal

pub hull-start-requires : goal.hull-start-requires
hull-start-requires g c = let t = c.ranges.time in start_there c.args.core.now (g.V.View.family c.args.view.now) c.args.u.now.start c.args.time c.requires.within (c.requires.sound)

pub add-requires : goal.add-requires
add-requires g c =
    let t = c.ranges.time in
    started_fits c.args.core.now (g.V.View.family c.args.view.now) c.args.u.now.start c.args.time c.hull-start.result c.point.result c.neg.result c.requires.within c.requires.sound c.hull-start.ensures (point_is c.args.time _ c.ranges.time c.point.ensures) c.neg.ensures

pub returns : goal.returns
returns g c =
    started_is (g.V.View.family c.args.view.now) c.args.u.now.start c.args.time c.hull-start.result c.neg.result c.add.result c.at_most_zero.result
    (start_there c.args.core.now (g.V.View.family c.args.view.now) c.args.u.now.start c.args.time c.requires.within c.requires.sound) c.hull-start.ensures (c.neg.ensures ∙ ap span_neg (point_is c.args.time _ c.ranges.time c.point.ensures)) c.add.ensures c.at_most_zero.ensures
