use Rattle.std.proofs.Common.{rules, length}
use Rattle.std.specs.Prelude.{FitsSigned}
use mir.Syntax.{w128}
use Rattle.std.proofs.lemmas.Int.{to_z-of_z}
use Rattle.opl_range.specs.Between.{between}
use Rattle.opl_range.proofs.Minus.{scaled_fits}
use Rattle.opl_range.proofs.Named.{summed_start, summed_next, summed_end, sum_fits}
use Rattle.opl_range.proofs.differences.variables_between.Goals as goal

pub named-init : goal.named-init
named-init g c = summed_start _ _ _ _ _ _ c.vars-end.ensures.count c.point-sum.ensures

pub scaled-requires : goal.scaled-requires
scaled-requires g c =
    let fits : FitsSigned w128 c.coefficient_between.result = search rules in
    simp to_z-of_z (scaled_fits c.args.core.now (g.V.View.family c.args.view.now) c.args.a.now c.args.b.now c.in-Some.x _ _ c.requires.within c.requires.sound c.coefficient_between.ensures c.hull.ensures)

pub add-sum-requires : goal.add-sum-requires
add-sum-requires g c =
    let fits : FitsSigned w128 c.coefficient_between.result = search rules in
    let e = simp to_z-of_z at c.scaled.ensures in
    sum_fits c.args.core.now (g.V.View.family c.args.view.now) c.args.a.now c.args.b.now _ c.named.end c.in-Some.x _ _ _ _ c.requires.within c.requires.sound c.named.invariant (c.in-Some.ensures).below c.coefficient_between.ensures c.hull.ensures e

pub named-preserved : goal.named-preserved
named-preserved g c =
    let fits : FitsSigned w128 c.coefficient_between.result = search rules in
    let e = simp to_z-of_z at c.scaled.ensures in
    summed_next c.args.core.now (g.V.View.family c.args.view.now) c.args.a.now c.args.b.now _ c.named.end c.in-Some.x _ _ _ _ c.add-sum.result c.requires.within c.named.invariant (c.in-Some.ensures) c.coefficient_between.ensures c.hull.ensures e c.add-sum.ensures

pub returns-in-None : goal.returns-in-None
returns-in-None g c =
    summed_end _ _ (between c.args.core.now c.args.a.now c.args.b.now) (length (g.V.View.family c.args.view.now)) c.named.end c.named.sum c.named.invariant (c.in-None.ensures)
