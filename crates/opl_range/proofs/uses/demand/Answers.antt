use Rattle.std.proofs.Common.{◌≡◌, rules, sym, subst, to_z, of_z}
use Rattle.std.specs.Prelude.{FitsSigned, Some}
use mir.Syntax.{w64, w128}
use Rattle.std.proofs.lemmas.Int.{to_z-of_z}
use Rattle.opl_expr.specs.Forms.{demand_at}
use Rattle.opl_expr.specs.Range.{rest}
use Rattle.opl_expr.specs.Sound.{IsSoundTerm}
use Rattle.opl_range.proofs.Demands.{demand_fits, demand_is}
use Rattle.opl_range.proofs.uses.demand.Goals as goal

pub scaled-requires : goal.scaled-requires
scaled-requires g c =
    let time = to_z-of_z w64 c.args.time c.ranges.time in
    let k : FitsSigned w128 c.args.u.now.demand = search rules in
    simp to_z-of_z (demand_fits c.args.core.now (g.V.View.family c.args.view.now) c.args.u.now (to_z w64 (of_z w64 c.args.time)) c.has_started.result c.has_not_ended.result c.min-active.result
    (subst (λ z. IsSoundTerm c.args.core.now.sets (demand_at z c.args.u.now)) (sym time) c.requires.sound) c.has_started.ensures c.has_not_ended.ensures c.min-active.ensures)

pub returns : goal.returns
returns g c =
    let k : FitsSigned w128 c.args.u.now.demand = search rules in
    let r = simp to_z-of_z at c.scaled.ensures in
    subst (λ z. Some c.scaled.result ≡ rest (g.V.View.family c.args.view.now) (demand_at z c.args.u.now)) (to_z-of_z w64 c.args.time c.ranges.time)
    (demand_is (g.V.View.family c.args.view.now) c.args.u.now (to_z w64 (of_z w64 c.args.time)) c.has_started.result c.has_not_ended.result c.min-active.result c.scaled.result c.has_started.ensures c.has_not_ended.ensures c.min-active.ensures r)
