use Rattle.std.proofs.Common.{rules, ◌+◌, ◌∙◌, length, ap, subst, sym}
use Rattle.std.specs.Prelude.{FitsSigned, unsigned_abs}
use mir.Syntax.{w128}
use Rattle.std.proofs.lemmas.Int.{to_z-of_z}
use Rattle.opl_expr.specs.Sound.{IsSmall}
use Rattle.opl_expr.specs.Range.{has_zero}
use Rattle.opl_linear.specs.Linear.{factor_in, AreAmong, bulk}
use Rattle.opl_linear.specs.Forms.{rejects}
use Rattle.opl_linear_filter.specs.LinearForms.{DecidesByValues}
use Rattle.opl_linear_filter.specs.ShortForms.{CanTest}
use Rattle.opl_linear_filter.proofs.Weights.{family_fits, below_length}
use Rattle.opl_linear_filter.proofs.Comparing.{form_refutes, short_form, short_refutes}
use Rattle.opl_linear_filter.proofs.Values.{never_zero_is}
use Rattle.opl_linear_filter.proofs.linear_filter.LinearFilter.is_refuted.Goals as goal

pub has_zero-requires : goal.has_zero-requires
has_zero-requires g c =
    let F = g.V.View.family c.args.view.now in
    let f = c.args.self.now in
    let k : FitsSigned w128 f.constant = search rules in
    let d = subst (DecidesByValues f) c.if-is_by_values.true c.is_by_values.ensures in
    let t : CanTest f.parts f.constant F = record { core = c.args.core.now; form = short_form c.args.core.now f c.requires.made d.1; below = c.requires.declared } in
    simp to_z-of_z (subst (λ ps. CanTest ps f.constant F) (sym c.as_slice.ensures) t)

pub returns-then-is_by_values : goal.returns-then-is_by_values
returns-then-is_by_values g c = λ e is.
    let F = g.V.View.family c.args.view.now in
    let f = c.args.self.now in
    let k : FitsSigned w128 f.constant = search rules in
    let d = subst (DecidesByValues f) c.if-is_by_values.true c.is_by_values.ensures in
    let t : CanTest f.parts f.constant F = record { core = c.args.core.now; form = short_form c.args.core.now f c.requires.made d.1; below = c.requires.declared } in
    let h = simp to_z-of_z at c.has_zero.ensures in
    never_zero_is f.parts f.constant F c.has_zero.result t c.vars-vars.ensures.sets.full (h ∙ ap (λ ps. has_zero F (factor_in ps) f.constant (length F)) c.as_slice.ensures)
    ∙ short_refutes c.args.core.now e f is F c.vars-vars.ensures.sets.full (below_length c.args.core.now F c.requires.declared) d.0 d.1

pub is_rejected-requires-clause-there : goal.is_rejected-requires-clause-there
is_rejected-requires-clause-there g c =
    let F = g.V.View.family c.args.view.now in
    subst (AreAmong (length F)) (sym c.as_slice-2.ensures) (subst (λ m. AreAmong m c.args.self.now.parts) (sym (below_length c.args.core.now F c.requires.declared)) c.requires.made.among)

pub is_rejected-requires-clause-fits : goal.is_rejected-requires-clause-fits
is_rejected-requires-clause-fits g c =
    let F = g.V.View.family c.args.view.now in
    let f = c.args.self.now in
    let k : FitsSigned w128 f.constant = search rules in
    simp to_z-of_z (subst (λ ps. IsSmall (unsigned_abs f.constant + bulk F ps)) (sym c.as_slice-2.ensures) (family_fits c.args.core.now F f.parts f.constant c.requires.declared c.requires.made.fits))

pub returns : goal.returns
returns g c = λ e is.
    let F = g.V.View.family c.args.view.now in
    let f = c.args.self.now in
    let k : FitsSigned w128 f.constant = search rules in
    let d = subst (DecidesByValues f) c.if-is_by_values.false c.is_by_values.ensures in
    let h = simp to_z-of_z at c.is_rejected.ensures in
    h ∙ ap (λ ps. rejects f.kind (factor_in ps) f.constant F) c.as_slice-2.ensures ∙ form_refutes c.args.core.now e f is F c.vars-vars.ensures.sets.full (below_length c.args.core.now F c.requires.declared) d
