use Rattle.std.proofs.Common.{◌<◌, length, arith}
use Rattle.opl_filter.proofs.Removals.{left_below, left_sets}
use Rattle.opl_all_different.proofs.Spreads.{separate_later}
use Rattle.opl_all_different.proofs.Settled.{settle_next, settle_fails, failed_removals, settle_end, left_between, fitting_later, fewer_unmarked}
use Rattle.opl_all_different.proofs.settling.settle.Goals as goal

pub next_single-requires-clause-separate : goal.next_single-requires-clause-separate
next_single-requires-clause-separate g c = separate_later (g.N.View.family c.args.n.now) (g.N.View.family c.loop-i.n) c.args.parts.now (left_below _ _ _ c.loop-i.invariant.0.removals) c.requires.separate

pub spread-requires-clause-sets : goal.spread-requires-clause-sets
spread-requires-clause-sets g c = left_sets _ _ _ c.vars-vars.ensures.sets c.loop-i.invariant.0.removals

pub spread-requires-clause-separate : goal.spread-requires-clause-separate
spread-requires-clause-separate g c = separate_later (g.N.View.family c.args.n.now) (g.N.View.family c.loop-i.n) c.args.parts.now (left_below _ _ _ c.loop-i.invariant.0.removals) c.requires.separate

pub spread-requires-clause-fits : goal.spread-requires-clause-fits
spread-requires-clause-fits g c = fitting_later (g.N.View.family c.args.n.now) (g.N.View.family c.loop-i.n) c.args.parts.now (left_below _ _ _ c.loop-i.invariant.0.removals) c.requires.fits

pub returns-then-not-spread-clause-between : goal.returns-then-not-spread-clause-between
returns-then-not-spread-clause-between g c =
    left_between (g.N.View.family c.args.n.now) (g.N.View.family c.spread.new.n) c.args.parts.now c.vars-vars.ensures.sets
    (failed_removals (g.N.View.family c.args.n.now) (g.N.View.family c.loop-i.n) (g.N.View.family c.spread.new.n) c.args.parts.now c.loop-i.done c.in-Some.i c.spread.result c.loop-i.invariant.0 c.spread.ensures.spreads c.if-not-spread.true)

pub returns-then-not-spread-clause-outcome : goal.returns-then-not-spread-clause-outcome
returns-then-not-spread-clause-outcome g c =
    settle_fails (g.N.View.family c.args.n.now) (g.N.View.family c.loop-i.n) (g.N.View.family c.spread.new.n) c.args.parts.now c.loop-i.done c.in-Some.i c.spread.result c.loop-i.invariant.0 c.spread.ensures.spreads c.if-not-spread.true

pub loop-i-smaller : goal.loop-i-smaller
loop-i-smaller g c =
    let s = c.in-Some.ensures in
    let h : c.in-Some.i < length c.loop-i.done = omega (arith, s.place, c.loop-i.invariant.0.same) in
    fewer_unmarked c.loop-i.done c.in-Some.i h s.not_done

pub loop-i-preserved : goal.loop-i-preserved
loop-i-preserved g c =
    let s = c.in-Some.ensures in
    (settle_next (g.N.View.family c.args.n.now) (g.N.View.family c.loop-i.n) (g.N.View.family c.spread.new.n) c.args.parts.now c.loop-i.done c.in-Some.i c.spread.result c.loop-i.invariant.0 c.spread.ensures.spreads c.if-not-spread.false s.place, g.met.N.Narrow.leads_on _ _ _ c.loop-i.invariant.1 c.spread.ensures.leads_to)

pub returns-in-None-clause-between : goal.returns-in-None-clause-between
returns-in-None-clause-between g c = left_between (g.N.View.family c.args.n.now) (g.N.View.family c.loop-i.n) c.args.parts.now c.vars-vars.ensures.sets c.loop-i.invariant.0.removals

pub returns-in-None-clause-outcome : goal.returns-in-None-clause-outcome
returns-in-None-clause-outcome g c =
    settle_end (g.N.View.family c.args.n.now) (g.N.View.family c.loop-i.n) c.args.parts.now c.loop-i.done c.vars-vars.ensures.sets c.requires.separate c.loop-i.invariant.0 c.in-None.ensures
