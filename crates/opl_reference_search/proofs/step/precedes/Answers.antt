use Rattle.std.proofs.Common.{◌++◌, ◌∷◌, [], ap, ◌∙◌, arith}
use Rattle.opl_expr.specs.declared.forms.Expr.TheVariants as E
use Rattle.opl_expr.specs.Forms.{fact}
use Rattle.opl_reference_search.proofs.Orders.{order_made}
use Rattle.opl_reference_search.proofs.step.precedes.Goals as goal

pub overflow_add-x : goal.overflow_add-x
overflow_add-x c = omega (arith, c.requires)

pub returns : goal.returns
returns c =
    ap (fact c.args.core.now.tables c.args.core.now.resources) c.in_ok-order.ensures
    ∙ order_made c.args.core.now.tables c.args.core.now.resources c.args.x c.args.y c.push.new.self c.push-2.new.self _ _
    (c.in_ok-push.ensures.ok ∙ ap (λ es. es ++ E.Var c.args.x ∷ []) c.new-parts.ensures) c.in_ok-push-2.ensures.ok c.in_ok-end.ensures c.in_ok-start.ensures
