use Rattle.std.proofs.Common.{rules, sym}
use Rattle.std.specs.Prelude.{FitsSigned}
use mir.Syntax.{w128}
use Rattle.std.proofs.lemmas.Int.{to_z-of_z}
use Rattle.opl_filter.proofs.Removals.{left_below, left_sets}
use Rattle.opl_all_different.specs.Parts.{part_at}
use Rattle.opl_all_different.proofs.Meetings.{only_below_has, numbers_some}
use Rattle.opl_all_different.proofs.Fits.{value_small}
use Rattle.opl_all_different.proofs.Spreads.{separate_later, spread_next, spread_end}
use Rattle.opl_all_different.proofs.spreading.spread.Goals as goal

pub take_from-requires-clause-sets : goal.take_from-requires-clause-sets
take_from-requires-clause-sets g c = left_sets _ _ _ c.requires.sets c.loop-j.invariant.0.removals

pub take_from-requires-clause-separate : goal.take_from-requires-clause-separate
take_from-requires-clause-separate g c = separate_later (g.N.View.family c.args.n.now) (g.N.View.family c.loop-j.n) c.args.parts.now (left_below _ _ _ c.loop-j.invariant.0.removals) c.requires.separate

pub take_from-requires-clause-single : goal.take_from-requires-clause-single
take_from-requires-clause-single g c =
    let v : FitsSigned w128 c.value-v.result = search rules in
    simp to_z-of_z (only_below_has (g.N.View.family c.loop-j.n) (g.N.View.family c.args.n.now) (part_at c.args.parts.now c.args.i) c.value-v.result (left_below _ _ _ c.loop-j.invariant.0.removals) c.value-v.ensures)

pub take_from-requires-clause-fits : goal.take_from-requires-clause-fits
take_from-requires-clause-fits g c =
    let v : FitsSigned w128 c.value-v.result = search rules in
    let p = part_at c.args.parts.now c.args.i in
    let w = numbers_some (g.N.View.family c.args.n.now) p c.requires.sets.full (c.requires.separate.there c.args.i c.requires.place) in
    simp to_z-of_z (λ n. value_small p w.0 _ (c.requires.fits.pairs c.args.i c.loop-j.j w.0 c.requires.place c.loop-j-test.true n w.1) c.value-v.result (sym (c.value-v.ensures w.0 w.1)))

pub loop-j-preserved : goal.loop-j-preserved
loop-j-preserved g c =
    let v : FitsSigned w128 c.value-v.result = search rules in
    let i = simp to_z-of_z at c.loop-j.invariant.0 in
    let t = simp to_z-of_z at c.take_from.ensures.takes in
    (simp to_z-of_z (spread_next (g.N.View.family c.args.n.now) (g.N.View.family c.loop-j.n) (g.N.View.family c.take_from.new.n) c.args.parts.now c.args.i c.loop-j.j c.value-v.result c.take_from.result i t c.if-not-take_from.false), g.met.N.Narrow.leads_on _ _ _ c.loop-j.invariant.1 c.take_from.ensures.leads_to)

pub returns-clause-spreads : goal.returns-clause-spreads
returns-clause-spreads g c =
    let v : FitsSigned w128 c.value-v.result = search rules in
    let i = simp to_z-of_z at c.loop-j.invariant.0 in
    spread_end (g.N.View.family c.args.n.now) (g.N.View.family c.loop-j.n) c.args.parts.now c.args.i c.loop-j.j c.value-v.result c.value-v.ensures i c.loop-j-test.false
