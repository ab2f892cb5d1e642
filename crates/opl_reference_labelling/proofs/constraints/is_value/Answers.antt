use Rattle.std.proofs.Common.{rules, ap, ◌∙◌, to_z, of_z}
use Rattle.std.specs.Prelude.{FitsSigned}
use Rattle.std.proofs.lemmas.Int.{to_z-of_z}
use mir.Syntax.{w64, w128}
use Rattle.opl_expr.specs.declared.forms.Expr.TheVariants as E
use Rattle.opl_reference_labelling.proofs.Made.{value_made}
use Rattle.opl_reference_labelling.proofs.constraints.is_value.Goals as goal

pub returns : goal.returns
returns c =
    let narrow : FitsSigned w64 c.args.v = search rules in
    let wide : FitsSigned w128 c.args.v = search rules in
    let same = ap (λ v. to_z w128 (of_z w128 v)) (to_z-of_z w64 c.args.v narrow) ∙ to_z-of_z w128 c.args.v wide in
    value_made _ _ _ _ _ _ c.in_ok-left.ensures (c.in_ok-new.ensures ∙ ap E.Const same)
