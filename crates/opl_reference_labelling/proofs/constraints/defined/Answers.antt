use Rattle.std.proofs.Common.{ap, ◌∙◌}
use Rattle.opl_expr.specs.Forms.{term}
use Rattle.opl_expr.specs.declared.forms.Op.TheVariants.{Eq}
use Rattle.opl_reference_labelling.proofs.Made.{compared_made}
use Rattle.opl_reference_labelling.proofs.constraints.defined.Goals as goal

pub returns : goal.returns
returns c =
    let T = term c.args.core.now.tables c.args.core.now.resources in
    compared_made _ _ Eq _ _ _ _ (ap T (c.in_ok-left.ensures ∙ c.in_ok-copy.ensures)) (ap T (c.in_ok-new.ensures ∙ c.in_ok-copy-2.ensures))
