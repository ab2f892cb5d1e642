use Rattle.std.proofs.Common.{rules, ◌+◌, length, subst, sym}
use Rattle.std.specs.Prelude.{FitsSigned, unsigned_abs}
use mir.Syntax.{w128}
use Rattle.std.proofs.lemmas.Int.{to_z-of_z}
use Rattle.opl_expr.specs.Sound.{IsSmall}
use Rattle.opl_filter.specs.Filtering.{refutes, IsBetween, Filters}
use Rattle.opl_linear.specs.Linear.{factor_in, AreAmong, bulk}
use Rattle.opl_linear.specs.Forms.{rejects}
use Rattle.opl_linear_filter.specs.LinearForms.{DecidesByValues}
use Rattle.opl_linear_filter.specs.ShortForms.{equation, IsShort}
use Rattle.opl_linear_filter.proofs.Weights.{family_fits, below_length}
use Rattle.opl_linear_filter.proofs.Comparing.{form_filters, short_form, short_filters}
use Rattle.opl_linear_filter.proofs.linear_filter.LinearFilter.filter.Goals as goal

pub filter_short-requires-clause-form : goal.filter_short-requires-clause-form
filter_short-requires-clause-form g c =
    let f = c.args.self.now in
    let k : FitsSigned w128 f.constant = search rules in
    let d = subst (DecidesByValues f) c.if-is_by_values.true c.is_by_values.ensures in
    simp to_z-of_z (subst (λ ps. IsShort c.args.core.now ps f.constant) (sym c.as_slice.ensures) (short_form c.args.core.now f c.requires.made d.1))

pub returns-then-is_by_values-clause-between : goal.returns-then-is_by_values-clause-between
returns-then-is_by_values-clause-between g c = λ e is.
    let F = g.N.View.family c.args.n.now in
    let G = g.N.View.family c.filter_short.new.n in
    let f = c.args.self.now in
    let k : FitsSigned w128 f.constant = search rules in
    let d = subst (DecidesByValues f) c.if-is_by_values.true c.is_by_values.ensures in
    let b = simp to_z-of_z at c.filter_short.ensures.between in
    let o = simp to_z-of_z at c.filter_short.ensures.outcome in
    (short_filters c.args.core.now e f is F G c.filter_short.result c.vars-vars.ensures.sets c.requires.declared d.0 d.1
    (subst (λ ps. IsBetween (refutes (equation ps f.constant)) F G) c.as_slice.ensures b)
    (subst (λ ps. Filters (refutes (equation ps f.constant)) F G c.filter_short.result) c.as_slice.ensures o)).0

pub returns-then-is_by_values-clause-outcome : goal.returns-then-is_by_values-clause-outcome
returns-then-is_by_values-clause-outcome g c = λ e is.
    let F = g.N.View.family c.args.n.now in
    let G = g.N.View.family c.filter_short.new.n in
    let f = c.args.self.now in
    let k : FitsSigned w128 f.constant = search rules in
    let d = subst (DecidesByValues f) c.if-is_by_values.true c.is_by_values.ensures in
    let b = simp to_z-of_z at c.filter_short.ensures.between in
    let o = simp to_z-of_z at c.filter_short.ensures.outcome in
    (short_filters c.args.core.now e f is F G c.filter_short.result c.vars-vars.ensures.sets c.requires.declared d.0 d.1
    (subst (λ ps. IsBetween (refutes (equation ps f.constant)) F G) c.as_slice.ensures b)
    (subst (λ ps. Filters (refutes (equation ps f.constant)) F G c.filter_short.result) c.as_slice.ensures o)).1

pub filter_form-requires-clause-there : goal.filter_form-requires-clause-there
filter_form-requires-clause-there g c =
    let F = g.N.View.family c.args.n.now in
    subst (AreAmong (length F)) (sym c.as_slice-2.ensures) (subst (λ m. AreAmong m c.args.self.now.parts) (sym (below_length c.args.core.now F c.requires.declared)) c.requires.made.among)

pub filter_form-requires-clause-fits : goal.filter_form-requires-clause-fits
filter_form-requires-clause-fits g c =
    let F = g.N.View.family c.args.n.now in
    let f = c.args.self.now in
    let k : FitsSigned w128 f.constant = search rules in
    simp to_z-of_z (subst (λ ps. IsSmall (unsigned_abs f.constant + bulk F ps)) (sym c.as_slice-2.ensures) (family_fits c.args.core.now F f.parts f.constant c.requires.declared c.requires.made.fits))

pub returns-clause-between : goal.returns-clause-between
returns-clause-between g c = λ e is.
    let F = g.N.View.family c.args.n.now in
    let G = g.N.View.family c.filter_form.new.n in
    let f = c.args.self.now in
    let k : FitsSigned w128 f.constant = search rules in
    let d = subst (DecidesByValues f) c.if-is_by_values.false c.is_by_values.ensures in
    let b = simp to_z-of_z at c.filter_form.ensures.between in
    let o = simp to_z-of_z at c.filter_form.ensures.outcome in
    (form_filters c.args.core.now e f is F G c.filter_form.result c.vars-vars.ensures.sets c.requires.declared d
    (subst (λ ps. IsBetween (rejects f.kind (factor_in ps) f.constant) F G) c.as_slice-2.ensures b)
    (subst (λ ps. Filters (rejects f.kind (factor_in ps) f.constant) F G c.filter_form.result) c.as_slice-2.ensures o)).0

pub returns-clause-outcome : goal.returns-clause-outcome
returns-clause-outcome g c = λ e is.
    let F = g.N.View.family c.args.n.now in
    let G = g.N.View.family c.filter_form.new.n in
    let f = c.args.self.now in
    let k : FitsSigned w128 f.constant = search rules in
    let d = subst (DecidesByValues f) c.if-is_by_values.false c.is_by_values.ensures in
    let b = simp to_z-of_z at c.filter_form.ensures.between in
    let o = simp to_z-of_z at c.filter_form.ensures.outcome in
    (form_filters c.args.core.now e f is F G c.filter_form.result c.vars-vars.ensures.sets c.requires.declared d
    (subst (λ ps. IsBetween (rejects f.kind (factor_in ps) f.constant) F G) c.as_slice-2.ensures b)
    (subst (λ ps. Filters (rejects f.kind (factor_in ps) f.constant) F G c.filter_form.result) c.as_slice-2.ensures o)).1
