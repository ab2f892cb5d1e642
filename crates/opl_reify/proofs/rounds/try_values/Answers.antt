use Rattle.std.proofs.Common.{rules}
use Rattle.std.specs.Prelude.{FitsSigned}
use mir.Syntax.{w64}
use Rattle.std.proofs.lemmas.Int.{to_z-of_z}
use Rattle.opl_trace.proofs.Families.{has_at, below_join}
use Rattle.opl_filter.proofs.Removals.{left_sets, left_below}
use Rattle.opl_reify.proofs.Trying.{tried_variable, trying_next, trying_end}
use Rattle.opl_reify.proofs.rounds.try_values.Goals as goal

pub try_value-requires-clause-sets : goal.try_value-requires-clause-sets
try_value-requires-clause-sets g c = left_sets _ _ _ c.requires.sets c.loop-removed.invariant.0.removals

pub try_value-requires-clause-variable : goal.try_value-requires-clause-variable
try_value-requires-clause-variable g c = has_at _ _ _ c.loop-removed.invariant.0.value

pub try_value-requires-clause-tests : goal.try_value-requires-clause-tests
try_value-requires-clause-tests g c F b = c.requires.tests F (below_join F _ _ b (left_below _ _ _ c.loop-removed.invariant.0.removals))

pub next-requires : goal.next-requires
next-requires g c = tried_variable (g.T.Test.dead c.args.test.now) _ _ c.args.x c.args.x _ c.in_ok-removed.field-0 c.in_ok-removed.ensures.tries (has_at _ _ _ c.loop-removed.invariant.0.value)

pub returns-in-None-clause-tries : goal.returns-in-None-clause-tries
returns-in-None-clause-tries g c = trying_end _ _ _ _ _ _ _ _ c.loop-removed.invariant.0 c.in_ok-removed.ensures.tries c.in-None.ensures

pub loop-removed-preserved : goal.loop-removed-preserved
loop-removed-preserved g c =
    let fits : FitsSigned w64 c.in-Some.w = search rules in
    (rw (to_z-of_z w64 c.in-Some.w fits) (trying_next (g.T.Test.dead c.args.test.now) _ _ (g.N.View.family c.try_value.new.n) c.args.x _ c.in-Some.w _ _ c.loop-removed.invariant.0 c.in_ok-removed.ensures.tries c.in-Some.ensures), g.met.N.Narrow.leads_on _ _ _ c.loop-removed.invariant.1 c.try_value.ensures.leads_to)
