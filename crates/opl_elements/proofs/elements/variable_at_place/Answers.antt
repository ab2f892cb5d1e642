use Rattle.std.proofs.Common.{◌≡◌, ◌+◌, sym, ap, ◌∙◌, arith}
use Rattle.opl_draft.specs.Drafts.Leaves.{numbered}
use Rattle.opl_expr.specs.declared.forms.Expr.TheVariants as E
use Rattle.opl_form.specs.Nodes.{element_at, element_node, variable_sort}
use Rattle.opl_nodes.specs.Contexts.{arrays, sets}
use Rattle.opl_nodes.proofs.Tests.{makes-same}
use Rattle.opl_elements.proofs.Cells.{variable-inside}
use Rattle.opl_elements.proofs.elements.variable_at_place.Goals as goal

pub returns-in-Some : goal.returns-in-Some
returns-in-Some c =
    let k = c.args.context.now in
    let n = c.args.before in
    let here : c.in-Some.x ≡ c.args.first + c.args.place = c.in-Some.ensures.1 in
    makes-same k (element_node (sets k) (arrays k) k.item (variable_sort (sets k) c.args.kind c.in-Some.x) c.args.at n (E.Var c.in-Some.x))
    (element_at (sets k) (arrays k) k.item c.args.at n (numbered c.args.kind c.args.first c.args.count) c.args.place) c.variable_node.result
    (ap (λ x. element_node (sets k) (arrays k) k.item (variable_sort (sets k) c.args.kind x) c.args.at n (E.Var x)) here
    ∙ sym (variable-inside k c.args.at n c.args.kind c.args.first c.args.count c.args.place (omega (arith, c.if-place-from.false, c.from.ensures)))) c.variable_node.ensures
