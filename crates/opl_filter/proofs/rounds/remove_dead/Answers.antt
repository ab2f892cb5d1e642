use Rattle.std.proofs.Common.{◌∙◌, sym, arith}
use Rattle.opl_trace.proofs.Families.{below_join}
use Rattle.opl_filter.proofs.Removals.{left_sets, left_below, left_join}
use Rattle.opl_filter.proofs.Trying.{stuck_later}
use Rattle.opl_filter.proofs.Outcomes.{left_between, stuck_has_failed, left_round, round_stable}
use Rattle.opl_filter.proofs.rounds.remove_dead.Goals as goal

pub try_all-requires-clause-sets : goal.try_all-requires-clause-sets
try_all-requires-clause-sets g c = left_sets _ _ _ c.vars-vars.ensures.sets c.loop.invariant.0

pub try_all-requires-clause-there : goal.try_all-requires-clause-there
try_all-requires-clause-there g c x h = omega (arith, c.requires.there x h, (left_below _ _ _ c.loop.invariant.0).same)

pub try_all-requires-clause-tests : goal.try_all-requires-clause-tests
try_all-requires-clause-tests g c F b = c.requires.tests F (below_join F _ _ b (left_below _ _ _ c.loop.invariant.0))

pub returns-in-None-clause-between : goal.returns-in-None-clause-between
returns-in-None-clause-between g c = left_between _ _ _ c.vars-vars.ensures.sets (left_join _ _ _ _ c.loop.invariant.0 c.in-None.ensures.tries.removals)

pub returns-in-None-clause-outcome : goal.returns-in-None-clause-outcome
returns-in-None-clause-outcome g c = stuck_has_failed _ _ _ c.requires.falls (stuck_later _ _ _ _ c.loop.invariant.0 c.in-None.ensures.tries)

pub loop-preserved : goal.loop-preserved
loop-preserved g c = (left_round _ _ _ _ _ _ c.loop.invariant.0 c.in-Some-true.ensures.tries, g.met.N.Narrow.leads_on _ _ _ c.loop.invariant.1 c.try_all.ensures.leads_to)

pub returns-in-Some-false-clause-between : goal.returns-in-Some-false-clause-between
returns-in-Some-false-clause-between g c = left_between _ _ _ c.vars-vars.ensures.sets (left_round _ _ _ _ _ _ c.loop.invariant.0 c.in-Some-false.ensures.tries)

pub returns-in-Some-false-clause-outcome : goal.returns-in-Some-false-clause-outcome
returns-in-Some-false-clause-outcome g c =
    round_stable _ _ _ _ _ _ c.requires.falls c.requires.there c.requires.others c.vars-vars.ensures.sets (sym c.if-is_dead.ensures) c.loop.invariant.0 c.in-Some-false.ensures.tries c.in-Some-false.field-0-test
