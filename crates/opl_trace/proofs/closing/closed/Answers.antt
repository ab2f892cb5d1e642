use Rattle.std.proofs.Common.{◌<◌, ◌∙◌, sym, rules, subst}
use Rattle.std.specs.Prelude.{FitsSigned}
use mir.Syntax.{w64}
use Rattle.std.proofs.lemmas.Int.{to_z-of_z}
use Rattle.opl_trace.specs.Sweeps.{size}
use Rattle.opl_trace.proofs.Families.{below_join}
use Rattle.opl_trace.specs.Removals.{Kept}
use Rattle.opl_trace.proofs.Removals.{kept_self, kept_below, dead_fails, kept_closed, stable_kept, single_fails, other_stays, kept_cut, cut_smaller}
use Rattle.opl_trace.proofs.closing.closed.Goals as goal

pub loop-sets-init : goal.loop-sets-init
loop-sets-init g c = kept_self _ _

pub returns-then-is_dead : goal.returns-then-is_dead
returns-then-is_dead g c = dead_fails _ _ _ c.requires.falls c.loop-sets.invariant (sym c.is_dead.ensures ∙ c.if-is_dead.true)

pub returns-in-None : goal.returns-in-None
returns-in-None g c =
    kept_closed _ _ _ c.requires.falls c.loop-sets.invariant
    (stable_kept _ _ (sym c.is_dead.ensures ∙ c.if-is_dead.false) c.in-None.ensures.family c.in-None.ensures.found)

pub returns-then-size-eq1 : goal.returns-then-size-eq1
returns-then-size-eq1 g c =
    single_fails _ _ _ _ _ c.requires.falls c.loop-sets.invariant c.in-Some.ensures.found (sym c.size.ensures ∙ c.if-size-eq1.true)

pub cut-requires-clause-stays : goal.cut-requires-clause-stays
cut-requires-clause-stays g c =
    let fits : FitsSigned w64 c.in-Some.v = search rules in
    let found = c.in-Some.ensures.found in
    rw (to_z-of_z w64 c.in-Some.v fits) (other_stays _ _ _ c.in-Some.ensures.family found.variable found.value (λ e. c.if-size-eq1.false (c.size.ensures ∙ e)))

pub loop-sets-smaller : goal.loop-sets-smaller
loop-sets-smaller g c =
    let fits : FitsSigned w64 c.in-Some.v = search rules in
    let e = rw (to_z-of_z w64 c.in-Some.v fits) at c.cut.ensures.cut in
    subst (λ F. size F < size c.loop-sets.sets) (sym e) (cut_smaller _ _ _ c.in-Some.ensures.found.value)

pub loop-sets-preserved : goal.loop-sets-preserved
loop-sets-preserved g c =
    let fits : FitsSigned w64 c.in-Some.v = search rules in
    let e = rw (to_z-of_z w64 c.in-Some.v fits) at c.cut.ensures.cut in
    subst (λ F. Kept (g.T.Test.dead c.args.test.now) c.args.sets F) (sym e) (kept_cut _ _ _ _ _ c.requires.falls c.loop-sets.invariant c.in-Some.ensures.found)

pub is_dead-requires : goal.is_dead-requires
is_dead-requires g c = c.requires.tests _ (kept_below _ _ _ c.loop-sets.invariant)

pub dead_pair-requires : goal.dead_pair-requires
dead_pair-requires g c F b = c.requires.tests F (below_join F _ _ b (kept_below _ _ _ c.loop-sets.invariant))
