use Rattle.std.proofs.Common.{◌≡◌, rules, map, subst}
use Rattle.std.specs.Prelude.{FitsSigned, Some}
use mir.Syntax.{w64, w128}
use Rattle.std.proofs.lemmas.Int.{to_z-of_z}
use Rattle.opl_expr.specs.Forms.{Term, terms_of, demand_at}
use Rattle.opl_expr.specs.Range.{rest}
use Rattle.opl_range.proofs.Demands.{capacity_fits, capacity_is}
use Rattle.opl_range.proofs.uses.capacity.Goals as goal

pub add-requires : goal.add-requires
add-requires g c =
    let k : FitsSigned w128 c.args.resource.now.capacity = search rules in
    let p = simp to_z-of_z at c.point.ensures in
    let e = subst (λ z. Some c.demands-total.result ≡ rest (g.V.View.family c.args.view.now) (Term.sum (terms_of (map (demand_at z) c.as_slice.result.now)))) (to_z-of_z w64 c.args.time c.ranges.time) c.demands-total.ensures in
    let f = subst (λ us. Some c.demands-total.result ≡ rest (g.V.View.family c.args.view.now) (Term.sum (terms_of (map (demand_at c.args.time) us)))) c.as_slice.ensures e in
    capacity_fits c.args.core.now (g.V.View.family c.args.view.now) c.args.resource.now c.args.time c.demands-total.result c.point.result c.neg.result c.requires.within c.requires.sound f p c.neg.ensures

pub returns : goal.returns
returns g c =
    let k : FitsSigned w128 c.args.resource.now.capacity = search rules in
    let p = simp to_z-of_z at c.point.ensures in
    let e = subst (λ z. Some c.demands-total.result ≡ rest (g.V.View.family c.args.view.now) (Term.sum (terms_of (map (demand_at z) c.as_slice.result.now)))) (to_z-of_z w64 c.args.time c.ranges.time) c.demands-total.ensures in
    let f = subst (λ us. Some c.demands-total.result ≡ rest (g.V.View.family c.args.view.now) (Term.sum (terms_of (map (demand_at c.args.time) us)))) c.as_slice.ensures e in
    capacity_is (g.V.View.family c.args.view.now) c.args.resource.now c.args.time c.demands-total.result c.point.result c.neg.result c.add.result c.at_most_zero.result f p c.neg.ensures c.add.ensures c.at_most_zero.ensures
