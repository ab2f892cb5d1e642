use Rattle.std.proofs.Common.{rules, ◌+◌, length, subst, sym}
use Rattle.std.specs.Prelude.{FitsSigned, unsigned_abs}
use mir.Syntax.{w128}
use Rattle.std.proofs.lemmas.Int.{to_z-of_z}
use Rattle.opl_expr.specs.Sound.{IsSmall}
use Rattle.opl_filter.specs.Filtering.{IsBetween, Filters}
use Rattle.opl_linear.specs.declared.kind.Kind.TheVariants as kinds
use Rattle.opl_linear.specs.Linear.{factor_in, AreAmong, bulk}
use Rattle.opl_linear.specs.Forms.{rejects}
use Rattle.opl_linear_filter.proofs.Weights.{family_fits, below_length}
use Rattle.opl_objective_filter.specs.ObjectiveFilters.{goal_in, constant_at}
use Rattle.opl_objective_filter.proofs.Bounds.{bound_filters, constant_fits}
use Rattle.opl_objective_filter.proofs.objective_filter.ObjectiveFilter.filter.Goals as goal

pub constant_at-requires : goal.constant_at-requires
constant_at-requires g c =
    let core = c.args.core.now in
    let b : FitsSigned w128 c.args.best = search rules in
    let near = c.requires.near in
    simp to_z-of_z (constant_fits core (goal_in core c.args.goal.now) c.args.self.now c.args.best c.requires.objective near)

pub filter_form-requires-clause-there : goal.filter_form-requires-clause-there
filter_form-requires-clause-there g c =
    let core = c.args.core.now in
    let D = g.N.View.family c.args.n.now in
    let b : FitsSigned w128 c.args.best = search rules in
    let near = c.requires.near in
    let made = (c.requires.objective.form c.args.best near).made in
    subst (AreAmong (length D)) (sym c.as_slice.ensures) (subst (λ m. AreAmong m c.args.self.now.parts) (sym (below_length core D c.requires.declared)) made.among)

pub filter_form-requires-clause-fits : goal.filter_form-requires-clause-fits
filter_form-requires-clause-fits g c =
    let core = c.args.core.now in
    let f = c.args.self.now in
    let D = g.N.View.family c.args.n.now in
    let b : FitsSigned w128 c.args.best = search rules in
    let r : FitsSigned w128 c.constant_at.result = search rules in
    let near = c.requires.near in
    let e = simp to_z-of_z at c.constant_at.ensures in
    let made = (c.requires.objective.form c.args.best near).made in
    simp to_z-of_z (subst (λ ps. IsSmall (unsigned_abs c.constant_at.result + bulk D ps)) (sym c.as_slice.ensures)
    (subst (λ m. IsSmall (unsigned_abs m + bulk D f.parts)) (sym e) (family_fits core D f.parts (constant_at f c.args.best) c.requires.declared made.fits)))

pub returns-clause-between : goal.returns-clause-between
returns-clause-between g c =
    let core = c.args.core.now in
    let f = c.args.self.now in
    let D = g.N.View.family c.args.n.now in
    let F = g.N.View.family c.filter_form.new.n in
    let b : FitsSigned w128 c.args.best = search rules in
    let r : FitsSigned w128 c.constant_at.result = search rules in
    let near = c.requires.near in
    let e = simp to_z-of_z at c.constant_at.ensures in
    let h = simp to_z-of_z at c.filter_form.ensures.between in
    let o = simp to_z-of_z at c.filter_form.ensures.outcome in
    (bound_filters core (goal_in core c.args.goal.now) f c.args.best D F c.filter_form.result c.requires.objective near c.vars-vars.ensures.sets c.requires.declared
    (subst (λ m. IsBetween (rejects kinds.Below (factor_in f.parts) m) D F) e (subst (λ ps. IsBetween (rejects kinds.Below (factor_in ps) c.constant_at.result) D F) c.as_slice.ensures h))
    (subst (λ m. Filters (rejects kinds.Below (factor_in f.parts) m) D F c.filter_form.result) e (subst (λ ps. Filters (rejects kinds.Below (factor_in ps) c.constant_at.result) D F c.filter_form.result) c.as_slice.ensures o))).0

pub returns-clause-outcome : goal.returns-clause-outcome
returns-clause-outcome g c =
    let core = c.args.core.now in
    let f = c.args.self.now in
    let D = g.N.View.family c.args.n.now in
    let F = g.N.View.family c.filter_form.new.n in
    let b : FitsSigned w128 c.args.best = search rules in
    let r : FitsSigned w128 c.constant_at.result = search rules in
    let near = c.requires.near in
    let e = simp to_z-of_z at c.constant_at.ensures in
    let h = simp to_z-of_z at c.filter_form.ensures.between in
    let o = simp to_z-of_z at c.filter_form.ensures.outcome in
    (bound_filters core (goal_in core c.args.goal.now) f c.args.best D F c.filter_form.result c.requires.objective near c.vars-vars.ensures.sets c.requires.declared
    (subst (λ m. IsBetween (rejects kinds.Below (factor_in f.parts) m) D F) e (subst (λ ps. IsBetween (rejects kinds.Below (factor_in ps) c.constant_at.result) D F) c.as_slice.ensures h))
    (subst (λ m. Filters (rejects kinds.Below (factor_in f.parts) m) D F c.filter_form.result) e (subst (λ ps. Filters (rejects kinds.Below (factor_in ps) c.constant_at.result) D F c.filter_form.result) c.as_slice.ensures o))).1
