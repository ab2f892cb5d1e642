use Rattle.std.proofs.Common.{ap, ◌∙◌}
use Rattle.opl_expr.specs.Forms.{fact}
use Rattle.opl_expr.specs.declared.forms.Op.TheVariants.{Eq}
use Rattle.opl_engine.proofs.Made.{compared_same}
use Rattle.opl_engine.proofs.base.defined.Goals as goal

pub returns : goal.returns
returns c =
    ap (fact c.args.core.now.tables c.args.core.now.resources) c.in_ok-new.ensures.ok
    ∙ compared_same c.args.core.now Eq _ _ c.args.goal.now.value (c.in_ok-left.ensures ∙ c.in_ok-copy.ensures) (c.in_ok-right.ensures ∙ c.in_ok-copy-2.ensures)
