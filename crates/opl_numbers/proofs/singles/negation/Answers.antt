use Rattle.std.proofs.Common.{sym, ◌∙◌}
use Rattle.opl_expr.specs.declared.forms.Expr.TheVariants as E
use Rattle.opl_form.specs.Measures as measures
use Rattle.opl_nodes.specs.Pieces.{magnitude}
use Rattle.opl_numbers.proofs.Measures.{depth-Neg, magnitude-Neg, nodes-Neg}
use Rattle.opl_numbers.proofs.Products.{one-more, same-capped}
use Rattle.opl_numbers.proofs.singles.negation.Goals as goal

pub number_node-requires-clause-size : goal.number_node-requires-clause-size
number_node-requires-clause-size c =
    let k = c.args.context.now in
    let n = c.in_ok-number.number in
    let is = c.in_ok-number.ensures.measures k c.requires in
    same-capped n.size (magnitude k (E.Neg n.expr)) (is.size ∙ sym (magnitude-Neg k n.expr))

pub number_node-requires-clause-depth : goal.number_node-requires-clause-depth
number_node-requires-clause-depth c =
    let n = c.in_ok-number.number in
    let is = c.in_ok-number.ensures.measures c.args.context.now c.requires in
    one-more n.depth (measures.depth n.expr) (measures.depth (E.Neg n.expr)) is.depth (depth-Neg n.expr)

pub number_node-requires-clause-nodes : goal.number_node-requires-clause-nodes
number_node-requires-clause-nodes c =
    let n = c.in_ok-number.number in
    let is = c.in_ok-number.ensures.measures c.args.context.now c.requires in
    one-more n.nodes (measures.nodes n.expr) (measures.nodes (E.Neg n.expr)) is.nodes (nodes-Neg n.expr)
