use Rattle.std.proofs.Common.{rules, refl}
use Rattle.std.specs.Prelude.{FitsSigned}
use mir.Syntax.{w64}
use Rattle.std.proofs.lemmas.Int.{to_z-of_z}
use Rattle.opl_trace.proofs.Families.{has_at}
use Rattle.opl_filter.proofs.Removals.{left_sets}
use Rattle.opl_reify.proofs.Trying.{tried_variable, trying_next, trying_end, trying_first}
use Rattle.opl_addends.proofs.Going.{can_try_next, same_next, same_stuck}
use Rattle.opl_addends.proofs.values.try_values.Goals as goal

pub loop-removed-init : goal.loop-removed-init
loop-removed-init g c =
    let fits : FitsSigned w64 c.min-v.result = search rules in
    (rw (to_z-of_z w64 c.min-v.result fits) (trying_first _ _ _ _ c.min-v.ensures), g.met.N.Narrow.leads_to_itself _, c.requires.tests, λ y n. refl)

pub try_value-requires-clause-sets : goal.try_value-requires-clause-sets
try_value-requires-clause-sets g c = left_sets _ _ _ c.requires.sets c.loop-removed.invariant.0.removals

pub try_value-requires-clause-variable : goal.try_value-requires-clause-variable
try_value-requires-clause-variable g c = has_at _ _ _ c.loop-removed.invariant.0.value

pub try_value-requires-clause-tests : goal.try_value-requires-clause-tests
try_value-requires-clause-tests g c = c.loop-removed.invariant.2

pub next-requires : goal.next-requires
next-requires g c = tried_variable (g.T.Test.dead c.args.test.now) _ _ c.args.x c.args.x _ c.in_ok-removed.field-0 c.in_ok-removed.ensures.tries (has_at _ _ _ c.loop-removed.invariant.0.value)

pub returns-in-None-clause-tries : goal.returns-in-None-clause-tries
returns-in-None-clause-tries g c = trying_end _ _ _ _ _ _ _ _ c.loop-removed.invariant.0 c.in_ok-removed.ensures.tries c.in-None.ensures

pub returns-in-None-clause-others : goal.returns-in-None-clause-others
returns-in-None-clause-others g c =
    same_next (g.T.Test.dead c.args.test.now) (g.N.View.family c.args.n.now) (g.N.View.family c.loop-removed.n) (g.N.View.family c.try_value.new.n) c.args.x _ c.in_ok-removed.field-0 c.loop-removed.invariant.3 c.in_ok-removed.ensures.tries

pub returns-in_err-removed-clause-others : goal.returns-in_err-removed-clause-others
returns-in_err-removed-clause-others g c =
    same_stuck (g.T.Test.dead c.args.test.now) (g.N.View.family c.args.n.now) (g.N.View.family c.loop-removed.n) (g.N.View.family c.try_value.new.n) c.args.x _ c.loop-removed.invariant.3 c.in_err-removed.ensures.tries

pub loop-removed-preserved : goal.loop-removed-preserved
loop-removed-preserved g c =
    let fits : FitsSigned w64 c.in-Some.w = search rules in (
      rw (to_z-of_z w64 c.in-Some.w fits) (trying_next (g.T.Test.dead c.args.test.now) _ _ (g.N.View.family c.try_value.new.n) c.args.x _ c.in-Some.w _ _ c.loop-removed.invariant.0 c.in_ok-removed.ensures.tries c.in-Some.ensures),
      g.met.N.Narrow.leads_on _ _ _ c.loop-removed.invariant.1 c.try_value.ensures.leads_to,
      can_try_next (g.T.Test.can_test c.args.test.now) (g.T.Test.dead c.args.test.now) (g.N.View.family c.loop-removed.n) (g.N.View.family c.try_value.new.n) c.args.x _ c.in_ok-removed.field-0 c.loop-removed.invariant.2 c.in_ok-removed.ensures.tries,
      same_next (g.T.Test.dead c.args.test.now) (g.N.View.family c.args.n.now) (g.N.View.family c.loop-removed.n) (g.N.View.family c.try_value.new.n) c.args.x _ c.in_ok-removed.field-0 c.loop-removed.invariant.3 c.in_ok-removed.ensures.tries,
    )
