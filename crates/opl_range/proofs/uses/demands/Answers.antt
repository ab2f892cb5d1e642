use Rattle.std.proofs.Common.{◌≡◌, ◌-◌, arith, pos, map, drop, get_or, sym, subst}
use Rattle.std.specs.Prelude.{Some}
use mir.Syntax.{w64}
use Rattle.std.proofs.lemmas.Int.{to_z-of_z}
use Rattle.opl_expr.specs.declared.tables.Use.{Use}
use Rattle.opl_expr.specs.Forms.{Term, terms_of, demand_at}
use Rattle.opl_expr.specs.Range.{rest}
use Rattle.opl_expr.specs.Sound.{IsSoundTerm}
use Rattle.opl_range.proofs.Demands.{demand_sound, total_fits, total_more}
use Rattle.opl_range.proofs.uses.demands.Goals as goal

pub demand-requires-clause-sound : goal.demand-requires-clause-sound
demand-requires-clause-sound g c =
    let none : Use = record { demand = pos 0; start = 0; duration = 0 } in
    subst (λ z. IsSoundTerm c.args.core.now.sets (demand_at z (get_or c.args.uses.now (c.loop-left.left - 1) none))) (sym (to_z-of_z w64 c.args.time c.ranges.time))
    (demand_sound c.args.core.now.sets c.args.time c.args.uses.now (c.loop-left.left - 1) none (omega (arith, c.loop-left.invariant.0, c.loop-left-test.true)) c.requires.sound.1)

pub add-total-requires : goal.add-total-requires
add-total-requires g c =
    let none : Use = record { demand = pos 0; start = 0; duration = 0 } in
    let e = subst (λ z. Some c.demand.result ≡ rest (g.V.View.family c.args.view.now) (demand_at z (get_or c.args.uses.now (c.loop-left.left - 1) none))) (to_z-of_z w64 c.args.time c.ranges.time) c.demand.ensures in
    let total = subst (λ z. Some c.loop-left.total ≡ rest (g.V.View.family c.args.view.now) (Term.sum (terms_of (map (demand_at z) (drop c.loop-left.left c.args.uses.now))))) (to_z-of_z w64 c.args.time c.ranges.time) c.loop-left.invariant.1 in
    total_fits c.args.core.now (g.V.View.family c.args.view.now) c.args.time c.args.uses.now c.loop-left.left none c.demand.result c.loop-left.total c.requires.within c.loop-left-test.true c.loop-left.invariant.0 c.requires.sound.0 e total

pub loop-left-preserved : goal.loop-left-preserved
loop-left-preserved g c =
    let none : Use = record { demand = pos 0; start = 0; duration = 0 } in
    let e = subst (λ z. Some c.demand.result ≡ rest (g.V.View.family c.args.view.now) (demand_at z (get_or c.args.uses.now (c.loop-left.left - 1) none))) (to_z-of_z w64 c.args.time c.ranges.time) c.demand.ensures in
    let total = subst (λ z. Some c.loop-left.total ≡ rest (g.V.View.family c.args.view.now) (Term.sum (terms_of (map (demand_at z) (drop c.loop-left.left c.args.uses.now))))) (to_z-of_z w64 c.args.time c.ranges.time) c.loop-left.invariant.1 in (
      omega (arith, c.loop-left.invariant.0),
      subst (λ z. Some c.add-total.result ≡ rest (g.V.View.family c.args.view.now) (Term.sum (terms_of (map (demand_at z) (drop (c.loop-left.left - 1) c.args.uses.now))))) (sym (to_z-of_z w64 c.args.time c.ranges.time))
          (total_more (g.V.View.family c.args.view.now) c.args.time c.args.uses.now c.loop-left.left none c.demand.result c.loop-left.total c.add-total.result c.loop-left-test.true c.loop-left.invariant.0 e total c.add-total.ensures),
    )
