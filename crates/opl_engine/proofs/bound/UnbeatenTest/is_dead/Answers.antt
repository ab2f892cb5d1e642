use Rattle.std.proofs.Common.{rules, ◌∙◌, ap, sym}
use Rattle.std.specs.Prelude.{FitsSigned, int_le}
use mir.Syntax.{w128}
use Rattle.std.proofs.lemmas.Int.{to_z-of_z}
use Rattle.opl_objective_filter.specs.ObjectiveFilters.{goal_in}
use Rattle.opl_engine.proofs.Beaten.{most_refuted, least_refuted}
use Rattle.opl_engine.proofs.bound.UnbeatenTest.is_dead.Goals as goal

pub returns-then-self : goal.returns-then-self
returns-then-self g c =
    let s = c.args.self.now in
    let high : FitsSigned w128 c.hi.result = search rules in
    let best : FitsSigned w128 s.best = search rules in
    rw (to_z-of_z w128 c.hi.result high, to_z-of_z w128 s.best best)
    (ap (λ h. int_le h s.best) c.hi.ensures.value
    ∙ sym (most_refuted (g.V.View.family c.args.view.now) (goal_in s.core.now s.goal.now) s.best c.in-Some.values c.if-self.true (sym c.in-Some.ensures) c.hi.ensures.ordered))

pub returns-else-self : goal.returns-else-self
returns-else-self g c =
    let s = c.args.self.now in
    let low : FitsSigned w128 c.lo.result = search rules in
    let best : FitsSigned w128 s.best = search rules in
    rw (to_z-of_z w128 c.lo.result low, to_z-of_z w128 s.best best)
    (ap (λ l. int_le s.best l) c.lo.ensures.value
    ∙ sym (least_refuted (g.V.View.family c.args.view.now) (goal_in s.core.now s.goal.now) s.best c.in-Some.values c.if-self.false (sym c.in-Some.ensures) c.lo.ensures.ordered))
