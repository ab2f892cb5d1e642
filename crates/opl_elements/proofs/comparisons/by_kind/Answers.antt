use Rattle.std.proofs.Common.{sym, ◌∙◌, ap}
use Rattle.opl_expr.specs.declared.forms.Cons.TheVariants as C
use Rattle.opl_form.specs.Parts as parts
use Rattle.opl_form.specs.Nodes as making
use Rattle.opl_form.specs.Nodes.{condition_node}
use Rattle.opl_nodes.specs.Pieces.{form}
use Rattle.opl_nodes.proofs.Tests.{makes-same}
use Rattle.opl_elements.specs.Comparisons.{apart}
use Rattle.opl_elements.proofs.Relations.{by_kind-alike, by_kind-unlike}
use Rattle.opl_elements.proofs.comparisons.by_kind.Goals as goal

pub returns-in-Some : goal.returns-in-Some
returns-in-Some c =
    let k = c.args.context.now in
    let e = parts.ranked (form c.args.left) in
    let f = parts.ranked (form c.args.right) in
    makes-same k (condition_node k.item c.args.before (apart c.in-Some.op c.in_ok-left.left.expr c.in_ok-right.right.expr))
    (condition_node k.item c.args.before (making.by_kind c.args.alike (making.op_of c.args.relation) e f)) c.apart.result
    ((λ i. condition_node k.item c.args.before (apart c.in-Some.op (c.in_ok-left.ensures.expr i) (c.in_ok-right.ensures.expr i)))
    ∙ ap (λ d. condition_node k.item c.args.before d) (sym (by_kind-unlike c.args.alike c.args.relation c.in-Some.op e f (sym c.unlike.ensures ∙ c.in-Some.is))))
    c.apart.ensures

pub returns-in-None : goal.returns-in-None
returns-in-None c =
    let k = c.args.context.now in
    let e = parts.ranked (form c.args.left) in
    let f = parts.ranked (form c.args.right) in
    makes-same k (condition_node k.item c.args.before (C.Cmp c.op_of.result c.in_ok-left.left.expr c.in_ok-right.right.expr))
    (condition_node k.item c.args.before (making.by_kind c.args.alike (making.op_of c.args.relation) e f)) c.comparison.result
    ((λ i. condition_node k.item c.args.before (C.Cmp (c.op_of.ensures i) (c.in_ok-left.ensures.expr i) (c.in_ok-right.ensures.expr i)))
    ∙ ap (λ d. condition_node k.item c.args.before d) (sym (by_kind-alike c.args.alike c.args.relation e f (sym c.unlike.ensures ∙ c.in-None.is))))
    c.comparison.ensures
