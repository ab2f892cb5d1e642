use Rattle.std.proofs.Common.{arith}
use Rattle.opl_trace.proofs.Families.{below_join}
use Rattle.opl_filter.proofs.Removals.{left_sets, left_below}
use Rattle.opl_reify.proofs.Trying.{listed_at, shared_first, shared_next, shared_end, shared_stuck}
use Rattle.opl_reify.proofs.rounds.try_shared.Goals as goal

pub loop-x-init : goal.loop-x-init
loop-x-init g c = (shared_first _ _ _ _, g.met.N.Narrow.leads_to_itself _)

pub try_if_listed-requires-clause-sets : goal.try_if_listed-requires-clause-sets
try_if_listed-requires-clause-sets g c = left_sets _ _ _ c.requires.sets c.loop-x.invariant.0.removals

pub try_if_listed-requires-clause-variable : goal.try_if_listed-requires-clause-variable
try_if_listed-requires-clause-variable g c =
    let listed = listed_at c.args.variables.now c.loop-x.x-index c.loop-x-test.true in
    omega (arith, c.requires.there _ listed, (left_below _ _ _ c.loop-x.invariant.0.removals).same)

pub try_if_listed-requires-clause-tests : goal.try_if_listed-requires-clause-tests
try_if_listed-requires-clause-tests g c F b = c.requires.tests F (below_join F _ _ b (left_below _ _ _ c.loop-x.invariant.0.removals))

pub returns-in_err-removed-clause-tries : goal.returns-in_err-removed-clause-tries
returns-in_err-removed-clause-tries g c = shared_stuck _ _ _ _ _ _ _ c.loop-x.invariant.0.removals c.in_err-removed.ensures.tries c.from_residual.ensures

pub loop-x-preserved : goal.loop-x-preserved
loop-x-preserved g c = (shared_next _ _ _ _ _ _ _ _ _ c.loop-x-test.true c.loop-x.invariant.0 c.in_ok-removed.ensures.tries, g.met.N.Narrow.leads_on _ _ _ c.loop-x.invariant.1 c.try_if_listed.ensures.leads_to)

pub returns-clause-tries : goal.returns-clause-tries
returns-clause-tries g c = shared_end _ _ _ _ _ _ _ c.loop-x.invariant.0 c.loop-x-test.false
